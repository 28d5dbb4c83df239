-- The live task of an id.
--     found_at, none_at     by what stands at the place before the id
use Rattle.std.proofs.Common.{◌≡◌, ℕ, suc, ◌-◌, List, Option, Some, None, option_map, slice_get, ap, sym, ◌∙◌, arith}
use Rattle.std.specs.Prelude.{unwrap_or}
use Rattle.std.proofs.lemmas.Option.{slice_get-map}
use denote.Ref.{Bor}
use Rattle.wh_state.specs.Task as state
use Rattle.wh_graph.specs.Graph.{task_of}
use Rattle.wh_task.specs.View.{live_of, tasks_of}
use Rattle.wh_task.specs.declared.task.Task.{Task}

by_place : (tasks : List (Option (Bor Task))) (id : ℕ) (found : Option (Option (Bor Task))) → (id ≡ 0 → ⊥)
    → slice_get tasks (id - 1) ≡ found → unwrap_or (option_map live_of found) None ≡ task_of (tasks_of tasks) id
by_place tasks id found some is =
    let place : id ≡ suc (id - 1) = omega (arith, some) in
    ap (λ (f : Option (Option (Bor Task))). unwrap_or (option_map live_of f) None) (sym is)
    ∙ ap (λ (f : Option (Option state.Task)). unwrap_or f None) (sym (slice_get-map live_of tasks (id - 1)))
    ∙ ap (task_of (tasks_of tasks)) (sym place)

pub found_at : (tasks : List (Option (Bor Task))) (id : ℕ) (task : Option (Bor Task)) → (id ≡ 0 → ⊥)
    → slice_get tasks (id - 1) ≡ Some task → live_of task ≡ task_of (tasks_of tasks) id
found_at tasks id task some is = by_place tasks id (Some task) some is

pub none_at : (tasks : List (Option (Bor Task))) (id : ℕ) → (id ≡ 0 → ⊥) → slice_get tasks (id - 1) ≡ None
    → None ≡ task_of (tasks_of tasks) id
none_at tasks id some is = by_place tasks id None some is
