-- What replies of the code stand for.
use Rattle.std.specs.Prelude.{map, option_map}
use Rattle.wh_reply.specs.Reply as machine
use Rattle.wh_reply.specs.declared.reply.Aftermath.{Aftermath}
use Rattle.wh_reply.specs.declared.reply.RowCounts.{RowCounts}
use Rattle.wh_reply.specs.declared.reply.RowCounts.TheVariants as counts
use Rattle.wh_reply.specs.declared.reply.GraphEnd.{GraphEnd}
use Rattle.wh_reply.specs.declared.reply.Refusal.{Refusal}
use Rattle.wh_reply.specs.declared.reply.Refusal.TheVariants as refusals
use Rattle.wh_reply.specs.declared.reply.RefreshAction.{RefreshAction}
use Rattle.wh_reply.specs.declared.reply.RefreshAction.TheVariants as actions
use Rattle.wh_reply.specs.declared.reply.Refreshed.{Refreshed}
use Rattle.wh_reply.specs.declared.reply.Reply.{Reply}
use Rattle.wh_reply.specs.declared.reply.Reply.TheVariants as replies

abbrev pub refusal_view : Refusal → machine.Refusal
refusal_view refusals.SyntaxError = machine.SyntaxError
refusal_view (refusals.NoSuchSession session) = machine.NoSuchSession session
refusal_view (refusals.DdlInTransaction number) = machine.DdlInTransaction number
refusal_view (refusals.TransactionOpen number) = machine.TransactionOpen number
refusal_view refusals.NoTransaction = machine.NoTransaction
refusal_view (refusals.UnknownName name) = machine.UnknownName name
refusal_view (refusals.NameTaken name) = machine.NameTaken name
refusal_view (refusals.WrongKind name) = machine.WrongKind name
refusal_view refusals.TypeMismatch = machine.TypeMismatch
refusal_view refusals.NotIncrementable = machine.NotIncrementable
refusal_view (refusals.LagTooShort table upstream) = machine.LagTooShort table upstream
refusal_view (refusals.RootRunning root) = machine.RootRunning root
refusal_view (refusals.RootNotSuspended root) = machine.RootNotSuspended root
refusal_view (refusals.HasChildren child) = machine.HasChildren child
refusal_view (refusals.OverLimit limit) = machine.OverLimit limit
refusal_view (refusals.NotInitialized name) = machine.NotInitialized name
refusal_view (refusals.SourceGone name) = machine.SourceGone name
refusal_view (refusals.StaleStream offset last_read) = machine.StaleStream offset last_read
refusal_view (refusals.IsSuspended name) = machine.IsSuspended name
refusal_view (refusals.Locked number) = machine.Locked number
refusal_view refusals.NumberOutOfRange = machine.NumberOutOfRange
refusal_view (refusals.AmbiguousMerge row) = machine.AmbiguousMerge row

abbrev pub counts_view : RowCounts → machine.RowCounts
counts_view (counts.Inserted count) = machine.Inserted count
counts_view (counts.Updated count) = machine.Updated count
counts_view (counts.Deleted count) = machine.Deleted count
counts_view (counts.Merged inserted updated deleted) = machine.Merged inserted updated deleted

abbrev pub graph_view : GraphEnd → machine.GraphEnd
graph_view g = record { root = g.root; has_failed = g.has_failed; is_suspended = g.is_suspended }

abbrev pub aftermath_view : Aftermath → machine.Aftermath
aftermath_view a = record { skipped = a.skipped.items; graph = option_map graph_view a.graph }

abbrev pub action_view : RefreshAction → machine.RefreshAction
action_view actions.NoData = machine.NoData
action_view actions.Full = machine.Full
action_view actions.Incremental = machine.Incremental

abbrev pub refreshed_view : Refreshed → machine.Refreshed
refreshed_view r =
    record { name = r.name; moment = r.moment; action = action_view r.action; plus = r.plus; minus = r.minus }

abbrev pub reply_view : Reply → machine.Reply
reply_view (replies.CreatedDynamicTable name refreshed) =
    machine.CreatedDynamicTable name (map refreshed_view refreshed.items)
reply_view (replies.DroppedDynamicTable name) = machine.DroppedDynamicTable name
reply_view (replies.Altered name) = machine.Altered name
reply_view (replies.RefreshedTables refreshed) = machine.RefreshedTables (map refreshed_view refreshed.items)
reply_view (replies.RefreshFailed name target why is_suspended) =
    machine.RefreshFailed name target (refusal_view why) is_suspended
reply_view (replies.CreatedTable name) = machine.CreatedTable name
reply_view (replies.DroppedTable name) = machine.DroppedTable name
reply_view (replies.CreatedStream name) = machine.CreatedStream name
reply_view (replies.DroppedStream name) = machine.DroppedStream name
reply_view (replies.CreatedTask name) = machine.CreatedTask name
reply_view (replies.DroppedTask name) = machine.DroppedTask name
reply_view (replies.Resumed name) = machine.Resumed name
reply_view (replies.Suspended name) = machine.Suspended name
reply_view (replies.Started root) = machine.Started root
reply_view (replies.TaskSucceeded name changed aftermath) =
    machine.TaskSucceeded name (counts_view changed) (aftermath_view aftermath)
reply_view (replies.TaskSkipped name aftermath) = machine.TaskSkipped name (aftermath_view aftermath)
reply_view (replies.TaskFailed name why aftermath) =
    machine.TaskFailed name (refusal_view why) (aftermath_view aftermath)
reply_view (replies.HasData has) = machine.HasData has
reply_view (replies.Changed changed) = machine.Changed (counts_view changed)
reply_view (replies.Begun number) = machine.Begun number
reply_view (replies.Committed stamp) = machine.Committed stamp
reply_view replies.CommittedNothing = machine.CommittedNothing
reply_view replies.RolledBack = machine.RolledBack
reply_view (replies.Listing names rows) = machine.Listing names.items rows.items
reply_view replies.Idle = machine.Idle
reply_view (replies.Refused refusal) = machine.Refused (refusal_view refusal)
