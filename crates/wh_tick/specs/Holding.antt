-- Tasks that wait for an open transaction.
--     held_one, held_in     of a run
--     held_among            of all runs
--     is_free_over          whether none holds what a task changes or consumes, by the objects that it may name
use Rattle.std.specs.Prelude.{ℕ, Bool, false, not, ◌&&◌, if◌then◌else◌, List, [], ◌∷◌, Option}
use Rattle.std.specs.List.{flat_map}
use Rattle.std.specs.Option.{option_map_or}
use Rattle.wh_naming.specs.Scope.{Named}
use Rattle.wh_naming.specs.Changes.{bound_change}
use Rattle.wh_state.specs.Task.{TaskRun, Run, Task}
use Rattle.wh_state.specs.Objects.{task_at}
use Rattle.wh_graph.specs.Graph.{Tasks, is_waiting}
use Rattle.wh_machine.specs.Outcome.{Machine}
use Rattle.wh_machine.specs.Ticks.{is_held_back}

abbrev pub held_one : (ℕ → Bool) → TaskRun → List ℕ
held_one is_free r = if is_waiting r && not (is_free r.task) then r.task ∷ [] else []

abbrev pub held_in : (ℕ → Bool) → Run → List ℕ
held_in is_free run = flat_map (held_one is_free) run

abbrev pub held_of : (ℕ → Bool) → Option Task → List ℕ
held_of is_free t = option_map_or (λ r. held_in is_free r.run) t []

abbrev pub held_among : (ℕ → Bool) → Tasks → List ℕ
held_among is_free tasks = flat_map (held_of is_free) tasks

abbrev pub is_free_over : List Named → Machine → ℕ → Bool
is_free_over names m id =
    option_map_or (λ t. not (is_held_back m (bound_change names t.runs.body))) (task_at m.state.objects id) false
