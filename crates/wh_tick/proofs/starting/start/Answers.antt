use Rattle.std.proofs.Common.{ℕ, List, [], ◌∷◌, length, map, ap, ◌∙◌, arith}
use Rattle.wh_state.specs.Commit.{SetsTask, StartsRun}
use Rattle.wh_state.specs.Task.{TaskState}
use Rattle.wh_graph.specs.Graph.{Tasks, kept_tasks}
use Rattle.wh_record.specs.View.{change_of}
use Rattle.wh_task.specs.View.{state_of, tasks_of}
use Rattle.wh_tick.proofs.starting.start.Goals as goal

pub kept_tasks-requires : goal.kept_tasks-requires
kept_tasks-requires c = omega (arith, c.in_ok-tasks.ensures.bounded, ap length c.deref.ensures.value)

pub returns : goal.returns
returns c =
    let root = c.args.root in
    let state : TaskState = record (state_of c.args.state) { last_start = c.args.stamp } in
    let kept = c.in_ok-kept.ensures
    ∙ ap (λ (tasks : Tasks). kept_tasks tasks root) (ap tasks_of c.deref.ensures.value ∙ c.in_ok-tasks.ensures.tasks) in
    ap (map change_of) c.in_ok-vec.ensures.items
    ∙ ap (λ (ids : List ℕ). SetsTask root state ∷ StartsRun root ids ∷ []) kept
