use Rattle.std.proofs.Common.{◌≡◌, ◌+◌, ◌∙◌, ap, sym, true, false, length, ◌++◌, ◌∷◌, []}
use Rattle.wh_state.specs.State.{new_object, TaskKind}
use Rattle.wh_state.specs.Commit.{changed, root_among, TaskApplies}
use Rattle.wh_record.specs.View.{task_change_of}
use Rattle.wh_task.specs.View.{run_of}
use Rattle.wh_catalog.specs.TaskConditions.{applies_below, task_applies}
use Rattle.wh_catalog.specs.Catalog.{objects_of}
use Rattle.wh_catalog.proofs.TaskConditions.{Decides-task_applies}
use Rattle.wh_catalog.proofs.catalog.Catalog.new_task.Goals as goal

pub returns-then-not-task_applies-clause-not_applicable : goal.returns-then-not-task_applies-clause-not_applicable
returns-then-not-task_applies-clause-not_applicable c = λ _ applies.
    let objects = objects_of c.args.self.now in
    let change = task_change_of c.args.change in
    let root : c.root_among-root.result ≡ root_among objects change.id change.after =
    c.root_among-root.ensures ∙ ap (root_among objects change.id) c.deref.ensures.value in
    let tested : c.task_applies.result ≡ task_applies objects change =
    c.task_applies.ensures ∙ ap (λ r. applies_below objects r change) root in
    let yes : task_applies objects change ≡ true = (Decides-task_applies objects change).1 applies in
    let is_not : c.task_applies.result ≡ false = c.if-not-task_applies.true in
    let never : false ≡ true = sym is_not ∙ tested ∙ yes in cc

pub returns-clause-applies : goal.returns-clause-applies
returns-clause-applies c =
    let objects = objects_of c.args.self.now in
    let change = task_change_of c.args.change in
    let root : c.root_among-root.result ≡ root_among objects change.id change.after =
    c.root_among-root.ensures ∙ ap (root_among objects change.id) c.deref.ensures.value in
    (Decides-task_applies objects change).0
    (sym (c.task_applies.ensures ∙ ap (λ r. applies_below objects r change) root) ∙ c.if-not-task_applies.false)

pub returns-clause-made : goal.returns-clause-made
unfolding changed
returns-clause-made c =
    let objects = objects_of c.args.self.now in
    let change = task_change_of c.args.change in
    let below : c.root_among-root.result ≡ root_among objects change.id change.after =
    c.root_among-root.ensures ∙ ap (root_among objects change.id) c.deref.ensures.value in
    let applies : TaskApplies objects change =
    (Decides-task_applies objects change).0
    (sym (c.task_applies.ensures ∙ ap (λ r. applies_below objects r change) below) ∙ c.if-not-task_applies.false) in
    let root : c.root_among-root.result ≡ root_among objects (length objects + 1) change.after =
    below ∙ ap (λ id. root_among objects id change.after) applies.object.next_id in
    λ _ i. objects ++ new_object change.name (TaskKind (record {
      minutes = change.minutes;
      after = change.after;
      root = root i;
      runs = change.runs;
      state = c.first_task_state.ensures i;
      run = run_of (c.new.ensures.items i);
    })) ∷ []
