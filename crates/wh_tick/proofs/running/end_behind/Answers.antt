use Rattle.std.proofs.Common.{List, ◌++◌, map, ap, ◌∙◌}
use Rattle.wh_state.specs.Commit.{Change}
use Rattle.wh_task.specs.View.{ending_of, run_of, task_of, tasks_of}
use Rattle.wh_record.specs.View.{change_of}
use Rattle.wh_catalog.specs.Catalog.{state_of}
use Rattle.wh_decide.specs.Sight.{machine_in}
use Rattle.wh_tick.proofs.EndLemmas.{changes_of_end, aftermath_is}
use Rattle.wh_tick.proofs.ReadyLemmas.{behind_read}
use Rattle.wh_tick.proofs.running.end_behind.Goals as goal

pub returns-clause-aftermath : goal.returns-clause-aftermath
returns-clause-aftermath c =
    let turn = c.args.turn.now in
    let end = c.in_ok-end.end in
    let tasks = c.in_ok-tasks.tasks.items in
    c.in_ok-aftermath.ensures
    ∙ aftermath_is (tasks_of tasks) turn.root (task_of turn.graph.now) turn.task (ending_of c.args.ending)
    end.skipped.items (run_of end.run.items)
    (rw (c.deref.ensures.value, c.deref-2.ensures.value) at c.in_ok-end.ensures.skipped)
    (rw (c.deref.ensures.value, c.deref-2.ensures.value) at c.in_ok-end.ensures.run)
    (machine_in c.args.sight.now) c.in_ok-tasks.ensures.tasks

pub returns-clause-changes : goal.returns-clause-changes
returns-clause-changes c =
    let turn = c.args.turn.now in
    let end = c.in_ok-end.end in
    let tasks = c.in_ok-tasks.tasks.items in
    c.in_ok-add_end.ensures
    ∙ ap (λ (more : List Change). map change_of c.args.changes.items ++ more)
    (changes_of_end (tasks_of tasks) turn.root (task_of turn.graph.now) turn.task (ending_of c.args.ending)
    end.skipped.items (run_of end.run.items)
    (rw (c.deref.ensures.value, c.deref-2.ensures.value) at c.in_ok-end.ensures.skipped)
    (rw (c.deref.ensures.value, c.deref-2.ensures.value) at c.in_ok-end.ensures.run)
    (state_of c.args.sight.now.catalog.now).objects c.in_ok-tasks.ensures.tasks)

pub returns-clause-read : goal.returns-clause-read
returns-clause-read c = λ are.
    let turn = c.args.turn.now in
    behind_read (state_of c.args.sight.now.catalog.now).objects turn.root (task_of turn.graph.now) turn.task
    (ending_of c.args.ending) (map change_of c.args.changes.items) (map change_of c.add_end.new.changes.items)
    (returns-clause-changes c) are
