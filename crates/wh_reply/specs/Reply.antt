-- Replies, and their text.
--     Refusal, Reply     what is answered to an event
--     RowCounts             how many rows a statement changed
--     Aftermath          what else the end of a task does, GraphEnd with it
--     print              the lines of a reply
use Rattle.std.specs.Prelude.{ℕ, Bool, true, false, List, [], ◌∷◌, ◌++◌, length, map, Option, Some, None}
use Rattle.std.specs.Prelude.{codes, decimal}
use Rattle.std.specs.List.{flat_map, join_by}
use Rattle.wh_value.specs.Value.{Row, literal}
use Rattle.wh_value.specs.Limit.{bound}
use Rattle.wh_value.specs.declared.limit.Limit.{Limit}
use Rattle.wh_value.specs.declared.limit.Limit.TheVariants as limits

pub data Refusal : Type 0 where
  SyntaxError : Refusal
  NoSuchSession : (session : ℕ) → Refusal
  -- the number of the session's own transaction
  DdlInTransaction : (number : ℕ) → Refusal
  TransactionOpen : (number : ℕ) → Refusal
  NoTransaction : Refusal
  UnknownName : (name : List ℕ) → Refusal
  NameTaken : (name : List ℕ) → Refusal
  WrongKind : (name : List ℕ) → Refusal
  TypeMismatch : Refusal
  -- a query through which changes can't be carried
  NotIncrementable : Refusal
  -- a dynamic table, and one upstream whose lag would be longer
  LagTooShort : (table upstream : List ℕ) → Refusal
  -- a root that has a run under way
  RootRunning : (root : List ℕ) → Refusal
  -- a root that is resumed
  RootNotSuspended : (root : List ℕ) → Refusal
  -- a task that follows the one that would be dropped
  HasChildren : (child : List ℕ) → Refusal
  OverLimit : Limit → Refusal
  -- a dynamic table that has no rows yet
  NotInitialized : (name : List ℕ) → Refusal
  -- a stream, or a dynamic table, whose source was dropped or replaced
  SourceGone : (name : List ℕ) → Refusal
  -- a stream's offset, and the last stamp at which it could be read
  StaleStream : (offset last_read : ℕ) → Refusal
  -- a dynamic table that is suspended
  IsSuspended : (name : List ℕ) → Refusal
  -- the number of another session's transaction
  Locked : (number : ℕ) → Refusal
  NumberOutOfRange : Refusal
  -- a row of the target that several source rows would change
  AmbiguousMerge : Row → Refusal

-- what a statement changed
pub data RowCounts : Type 0 where
  Inserted : (count : ℕ) → RowCounts
  Updated : (count : ℕ) → RowCounts
  Deleted : (count : ℕ) → RowCounts
  Merged : (inserted updated deleted : ℕ) → RowCounts

-- how a run of a graph ended
pub record GraphEnd : Type 0 where
  pub root : List ℕ
  pub has_failed : Bool
  -- where it was the tenth that failed in a row
  pub is_suspended : Bool

-- what else a task's end does
pub record Aftermath : Type 0 where
  -- the names of the descendants that become SKIPPED
  pub skipped : List (List ℕ)
  -- the end of the run
  pub graph : Option GraphEnd

-- how a dynamic table was brought to a moment
pub data RefreshAction : Type 0 where
  NoData : RefreshAction
  Full : RefreshAction
  Incremental : RefreshAction

-- a dynamic table that was brought to a moment, with how many rows came and went
pub record Refreshed : Type 0 where
  pub name : List ℕ
  pub moment : ℕ
  pub action : RefreshAction
  pub plus : ℕ
  pub minus : ℕ

pub data Reply : Type 0 where
  CreatedDynamicTable : (name : List ℕ) → List Refreshed → Reply
  DroppedDynamicTable : (name : List ℕ) → Reply
  Altered : (name : List ℕ) → Reply
  RefreshedTables : List Refreshed → Reply
  -- a scheduled refresh, and whether its table was suspended by it
  RefreshFailed : (name : List ℕ) → (target : ℕ) → Refusal → (is_suspended : Bool) → Reply
  CreatedTable : (name : List ℕ) → Reply
  DroppedTable : (name : List ℕ) → Reply
  CreatedStream : (name : List ℕ) → Reply
  DroppedStream : (name : List ℕ) → Reply
  CreatedTask : (name : List ℕ) → Reply
  DroppedTask : (name : List ℕ) → Reply
  Resumed : (name : List ℕ) → Reply
  Suspended : (name : List ℕ) → Reply
  -- a run of the graph of that root
  Started : (root : List ℕ) → Reply
  TaskSucceeded : (name : List ℕ) → RowCounts → Aftermath → Reply
  TaskSkipped : (name : List ℕ) → Aftermath → Reply
  TaskFailed : (name : List ℕ) → Refusal → Aftermath → Reply
  -- whether a stream has rows to show
  HasData : Bool → Reply
  Changed : RowCounts → Reply
  Begun : (number : ℕ) → Reply
  Committed : (stamp : ℕ) → Reply
  CommittedNothing : Reply
  RolledBack : Reply
  Listing : (names : List (List ℕ)) → (rows : List Row) → Reply
  Idle : Reply
  Refused : Refusal → Reply

abbrev pub is_refusal : Reply → Bool
is_refusal (CreatedDynamicTable name refreshed) = false
is_refusal (DroppedDynamicTable name) = false
is_refusal (Altered name) = false
is_refusal (RefreshedTables refreshed) = false
is_refusal (RefreshFailed name target why is_suspended) = false
is_refusal (CreatedTable name) = false
is_refusal (DroppedTable name) = false
is_refusal (CreatedStream name) = false
is_refusal (DroppedStream name) = false
is_refusal (CreatedTask name) = false
is_refusal (DroppedTask name) = false
is_refusal (Resumed name) = false
is_refusal (Suspended name) = false
is_refusal (Started root) = false
is_refusal (TaskSucceeded name counts aftermath) = false
is_refusal (TaskSkipped name aftermath) = false
is_refusal (TaskFailed name why aftermath) = false
is_refusal (HasData has) = false
is_refusal (Changed counts) = false
is_refusal (Begun number) = false
is_refusal (Committed stamp) = false
is_refusal CommittedNothing = false
is_refusal RolledBack = false
is_refusal (Listing names rows) = false
is_refusal Idle = false
is_refusal (Refused why) = true

abbrev pub line : List ℕ → List ℕ
line text = text ++ 10 ∷ []

-- parts with ` | ` between each two
abbrev pub parted : List (List ℕ) → List ℕ
parted parts = join_by (λ p. p) (codes " | ") parts

abbrev pub values_text : Row → List ℕ
values_text row = parted (map literal row)

abbrev pub row_line : Row → List ℕ
row_line row = line (values_text row)

abbrev pub limit_word : Limit → List ℕ
limit_word limits.Statement = codes "STATEMENT"
limit_word limits.Stamp = codes "STAMP"
limit_word limits.RowNumber = codes "ROW_NUMBER"
limit_word limits.PartitionNumber = codes "PARTITION_NUMBER"
limit_word limits.ObjectIds = codes "OBJECT_IDS"
limit_word limits.Objects = codes "OBJECTS"
limit_word limits.Name = codes "NAME"
limit_word limits.Columns = codes "COLUMNS"
limit_word limits.Output = codes "OUTPUT"
limit_word limits.GraphTasks = codes "GRAPH_TASKS"
limit_word limits.Predecessors = codes "PREDECESSORS"
limit_word limits.Children = codes "CHILDREN"
limit_word limits.LeastSchedule = codes "SCHEDULE"
limit_word limits.MostSchedule = codes "SCHEDULE"
limit_word limits.LeastTargetLag = codes "TARGET_LAG"
limit_word limits.MostTargetLag = codes "TARGET_LAG"
limit_word limits.Retention = codes "RETENTION"

abbrev pub refusal_text : Refusal → List ℕ
refusal_text SyntaxError = codes "E1 SyntaxError"
refusal_text (NoSuchSession session) = codes "E2 NoSuchSession " ++ decimal session
refusal_text (DdlInTransaction number) = codes "E3 DdlInTransaction " ++ decimal number
refusal_text (TransactionOpen number) = codes "E4 TransactionOpen " ++ decimal number
refusal_text NoTransaction = codes "E5 NoTransaction"
refusal_text (UnknownName name) = codes "E6 UnknownName " ++ name
refusal_text (NameTaken name) = codes "E7 NameTaken " ++ name
refusal_text (WrongKind name) = codes "E8 WrongKind " ++ name
refusal_text TypeMismatch = codes "E9 TypeMismatch"
refusal_text NotIncrementable = codes "E10 NotIncrementable"
refusal_text (LagTooShort table upstream) = codes "E11 LagTooShort " ++ table ++ codes " " ++ upstream
refusal_text (RootRunning root) = codes "E12 RootRunning " ++ root
refusal_text (RootNotSuspended root) = codes "E12 RootNotSuspended " ++ root
refusal_text (HasChildren child) = codes "E12 HasChildren " ++ child
refusal_text (OverLimit limit) = codes "E13 Limit " ++ limit_word limit ++ codes " " ++ decimal (bound limit)
refusal_text (NotInitialized name) = codes "E14 NotInitialized " ++ name
refusal_text (SourceGone name) = codes "E15 SourceGone " ++ name
refusal_text (StaleStream offset last_read) =
    codes "E16 StaleStream " ++ decimal offset ++ codes " " ++ decimal last_read
refusal_text (IsSuspended name) = codes "E17 Suspended " ++ name
refusal_text (Locked number) = codes "E18 Locked " ++ decimal number
refusal_text NumberOutOfRange = codes "E19 NumberOutOfRange"
refusal_text (AmbiguousMerge row) = codes "E20 AmbiguousMerge " ++ values_text row

abbrev pub truth_text : Bool → List ℕ
truth_text true = codes "TRUE"
truth_text false = codes "FALSE"

abbrev pub counts_text : RowCounts → List ℕ
counts_text (Inserted count) = codes "INSERTED " ++ decimal count
counts_text (Updated count) = codes "UPDATED " ++ decimal count
counts_text (Deleted count) = codes "DELETED " ++ decimal count
counts_text (Merged inserted updated deleted) = codes "MERGED " ++ decimal inserted ++ codes " INSERTED "
    ++ decimal updated ++ codes " UPDATED " ++ decimal deleted ++ codes " DELETED"

abbrev pub skipped_line : List ℕ → List ℕ
skipped_line name = line (codes "TASK " ++ name ++ codes " SKIPPED")

-- whether a run failed
abbrev pub failed_text : Bool → List ℕ
failed_text true = codes " FAILED"
failed_text false = codes " SUCCEEDED"

-- whether a root was suspended by it
abbrev pub suspended_text : Bool → List ℕ
suspended_text true = codes " SUSPENDED"
suspended_text false = []

abbrev pub graph_line : GraphEnd → List ℕ
graph_line g = line (codes "GRAPH " ++ g.root ++ failed_text g.has_failed ++ suspended_text g.is_suspended)

-- the line of a run's end, where it ended
abbrev pub graph_lines : Option GraphEnd → List ℕ
graph_lines None = []
graph_lines (Some g) = graph_line g

abbrev pub aftermath_lines : Aftermath → List ℕ
aftermath_lines a = flat_map skipped_line a.skipped ++ graph_lines a.graph

abbrev pub action_word : RefreshAction → List ℕ
action_word NoData = codes "NO_DATA"
action_word Full = codes "FULL"
action_word Incremental = codes "INCREMENTAL"

abbrev pub refreshed_line : Refreshed → List ℕ
refreshed_line r = line (r.name ++ codes " REFRESHED " ++ decimal r.moment ++ codes " " ++ action_word r.action
    ++ codes " +" ++ decimal r.plus ++ codes " -" ++ decimal r.minus)

-- no reply is empty: where no table stood below the moment, nothing was done
abbrev pub refreshed_lines : List Refreshed → List ℕ
refreshed_lines [] = line (codes "IDLE")
refreshed_lines (r ∷ rs) = refreshed_line r ++ flat_map refreshed_line rs

unfoldable pub print : Reply → List ℕ
print (CreatedDynamicTable name refreshed) =
    line (codes "CREATED DYNAMIC TABLE " ++ name) ++ flat_map refreshed_line refreshed
print (DroppedDynamicTable name) = line (codes "DROPPED DYNAMIC TABLE " ++ name)
print (Altered name) = line (codes "ALTERED " ++ name)
print (RefreshedTables refreshed) = refreshed_lines refreshed
print (RefreshFailed name target why is_suspended) =
    line (name ++ codes " FAILED " ++ decimal target ++ codes " " ++ refusal_text why ++ suspended_text is_suspended)
print (CreatedTable name) = line (codes "CREATED TABLE " ++ name)
print (DroppedTable name) = line (codes "DROPPED TABLE " ++ name)
print (CreatedStream name) = line (codes "CREATED STREAM " ++ name)
print (DroppedStream name) = line (codes "DROPPED STREAM " ++ name)
print (CreatedTask name) = line (codes "CREATED TASK " ++ name)
print (DroppedTask name) = line (codes "DROPPED TASK " ++ name)
print (Resumed name) = line (codes "RESUMED " ++ name)
print (Suspended name) = line (codes "SUSPENDED " ++ name)
print (Started root) = line (codes "STARTED " ++ root)
print (TaskSucceeded name counts aftermath) =
    line (codes "TASK " ++ name ++ codes " SUCCEEDED " ++ counts_text counts) ++ aftermath_lines aftermath
print (TaskSkipped name aftermath) = skipped_line name ++ aftermath_lines aftermath
print (TaskFailed name why aftermath) =
    line (codes "TASK " ++ name ++ codes " FAILED " ++ refusal_text why) ++ aftermath_lines aftermath
print (HasData has) = line (truth_text has)
print (Changed counts) = line (counts_text counts)
print (Begun number) = line (codes "BEGUN " ++ decimal number)
print (Committed stamp) = line (codes "COMMITTED " ++ decimal stamp)
print CommittedNothing = line (codes "COMMITTED NOTHING")
print RolledBack = line (codes "ROLLED BACK")
print (Listing names rows) = line (parted names) ++ flat_map row_line rows
    ++ line (codes "(" ++ decimal (length rows) ++ codes " rows)")
print Idle = line (codes "IDLE")
print (Refused why) = line (refusal_text why)
