use Rattle.std.proofs.Common.{ℕ, List, [], ◌∷◌, length, map, ap, ◌∙◌, arith}
use Rattle.wh_state.specs.Commit.{StartsRun}
use Rattle.wh_graph.specs.Graph.{Tasks, kept_tasks}
use Rattle.wh_record.specs.View.{change_of}
use Rattle.wh_task.specs.View.{tasks_of}
use Rattle.wh_decide.proofs.altering.start.Goals as goal

pub kept_tasks-requires : goal.kept_tasks-requires
kept_tasks-requires c = omega (arith, c.in_ok-live.ensures.bounded, ap length c.deref.ensures.value)

pub returns : goal.returns
returns c =
    let root = c.args.root in
    ap (map change_of) c.in_ok-vec.ensures.items
    ∙ ap (λ (tasks : List ℕ). StartsRun root tasks ∷ []) c.in_ok-tasks.ensures
    ∙ ap (λ (tasks : Tasks). StartsRun root (kept_tasks tasks root) ∷ [])
    (ap tasks_of c.deref.ensures.value ∙ c.in_ok-live.ensures.tasks)
