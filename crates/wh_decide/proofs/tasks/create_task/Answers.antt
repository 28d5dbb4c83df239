use Rattle.std.proofs.Common.{◌≡◌, ℕ, List, ◌+◌, ◌≤◌, [], ◌∷◌, length, map, Some, None, option_map}
use Rattle.std.proofs.Common.{ap, sym, ◌∙◌, arith}
use Rattle.std.specs.Prelude.{unwrap_or}
use Rattle.wh_value.specs.Limit.{bound}
use Rattle.wh_value.specs.declared.limit.Limit.TheVariants as limits
use Rattle.wh_ddl_bind.specs.View.{new_task_of}
use Rattle.wh_reply.specs.Reply.{CreatedTask, DdlInTransaction, Locked}
use Rattle.wh_reply.specs.View.{refusal_view}
use Rattle.wh_record.specs.View.{change_of}
use Rattle.wh_state.specs.Commit.{CreatesTask}
use Rattle.wh_state.specs.Written.{written}
use Rattle.wh_machine.specs.Sessions.{number_in}
use Rattle.wh_machine.specs.Outcome.{commits}
use Rattle.wh_machine.specs.Definitions.{holder_of}
use Rattle.wh_machine.specs.Tasks.{task_refusal, body_of}
use Rattle.wh_catalog.specs.Catalog.{stored_of, state_of}
use Rattle.wh_txn.specs.View.{sessions_of}
use Rattle.wh_decide.specs.Sight.{machine_in}
use Rattle.wh_decide.proofs.CatalogLemmas.{count_is}
use Rattle.wh_decide.proofs.OutcomeLemmas.{decides_as}
use Rattle.wh_decide.proofs.DefineLemmas.{none_past}
use Rattle.wh_decide.proofs.TaskLemmas.{task_made, defines_task, within_limits, task_written}
use Rattle.wh_decide.proofs.tasks.create_task.Goals.{In_default}
use Rattle.wh_decide.proofs.tasks.create_task.Goals as goal

pub returns-in-Some : goal.returns-in-Some
returns-in-Some c =
    let sight = c.args.sight.now in
    let why = refusal_view c.in-Some.why in
    defines_task (state_of sight.catalog.now) sight.stamp (sessions_of sight.sessions.now) sight.session
    (new_task_of c.args.task) _ (Some why) c.in_ok-wrong.ensures
    (sym (ap (option_map refusal_view) c.in-Some.is) ∙ c.definition_refusal.ensures)

-- what a task that isn't refused keeps
within : (c : In_default)
    → (length (state_of c.args.sight.now.catalog.now).objects + 1 ≤ bound limits.ObjectIds)
    × (unwrap_or c.args.task.minutes 0 ≤ bound limits.MostSchedule)
within c =
    let sight = c.args.sight.now in
    let n = new_task_of c.args.task in
    let passed : task_refusal (state_of sight.catalog.now) None n ≡ None =
    sym c.in_ok-wrong.ensures ∙ none_past
    (option_map DdlInTransaction (number_in (sessions_of sight.sessions.now) sight.session))
    (option_map refusal_view c.in_ok-wrong.wrong)
    (option_map Locked (holder_of (sessions_of sight.sessions.now) None))
    (sym c.definition_refusal.ensures ∙ ap (option_map refusal_view) c.in_default.is) in
    within_limits (state_of sight.catalog.now) n passed

pub overflow_add-id : goal.overflow_add-id
overflow_add-id c =
    let kept = within (goal.at.overflow_add-id c).In_default in
    omega (arith, kept.0, c.object_count.ensures.count, count_is c.args.sight.now.catalog.now)

pub task_change-requires : goal.task_change-requires
task_change-requires c = (within (goal.at.task_change-requires c).In_default).1

pub returns : goal.returns
returns c =
    let sight = c.args.sight.now in
    let n = new_task_of c.args.task in
    let objects = (stored_of sight.catalog.now).objects in
    let items : map change_of c.in_ok-changes.changes.items ≡ written sight.stamp objects (task_made n) =
    ap (map change_of) c.in_ok-changes.ensures.items
    ∙ (λ i. (c.task_change.ensures
    ∙ ap (λ (count : ℕ). CreatesTask (record {
      id = count + 1;
      name = n.name;
      minutes = unwrap_or n.minutes 0;
      after = n.after;
      runs = body_of n;
    })) c.object_count.ensures.count) i ∷ [])
    ∙ task_written sight.stamp objects n.name (unwrap_or n.minutes 0) n.after (body_of n) in
    decides_as sight c.defined.result
    (ap (λ (name : List ℕ). commits (machine_in sight) (CreatedTask name) (task_made n)) c.in_ok-copy.ensures
    ∙ sym (defines_task (state_of sight.catalog.now) sight.stamp (sessions_of sight.sessions.now) sight.session n _
    None c.in_ok-wrong.ensures
    (sym (ap (option_map refusal_view) c.in_default.is) ∙ c.definition_refusal.ensures)))
    (c.defined.ensures.comes (task_made n) items)
