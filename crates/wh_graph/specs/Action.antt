-- What a tick carries out.
--     ready_in, ready_task     the task of a run that is ready first, and the first of all runs, with its root
--     due_root                 the due root with the least id
--     Action, action           the first of: the ready task, the start of the due root, nothing
use Rattle.std.specs.Prelude.{ℕ, suc, Bool, false, ◌&&◌, if◌then◌else◌, List, [], ◌∷◌, Option, Some, None, option_map}
use Rattle.std.specs.Option.{option_map_or}
use Rattle.wh_state.specs.Task.{TaskRun, Run, Task}
use Rattle.wh_graph.specs.Graph.{Tasks, after_of, is_waiting, are_done}
use Rattle.wh_graph.specs.Root.{is_due}

-- ---- tasks that are ready; `is_free` tells whether no open transaction holds what a task changes or reads

abbrev pub is_ready : (ℕ → Bool) → Tasks → Run → TaskRun → Bool
is_ready is_free tasks run r = is_waiting r && are_done run (after_of tasks r.task) && is_free r.task

abbrev pub first_ready : (ℕ → Bool) → Tasks → Run → List TaskRun → Option ℕ
first_ready is_free tasks run [] = None
first_ready is_free tasks run (r ∷ rs) =
    if is_ready is_free tasks run r then Some r.task else first_ready is_free tasks run rs

-- of a root's run
abbrev pub ready_in : (ℕ → Bool) → Tasks → Option Task → Option ℕ
ready_in is_free tasks None = None
ready_in is_free tasks (Some root) = first_ready is_free tasks root.run root.run

abbrev pub or_next : Option (ℕ × ℕ) → Option (ℕ × ℕ) → Option (ℕ × ℕ)
or_next None next = next
or_next (Some found) next = Some found

abbrev pub ready_from : (ℕ → Bool) → Tasks → ℕ → Tasks → Option (ℕ × ℕ)
ready_from is_free tasks id [] = None
ready_from is_free tasks id (t ∷ ts) =
    or_next (option_map (λ task. (id, task)) (ready_in is_free tasks t)) (ready_from is_free tasks (suc id) ts)

-- with the least root, and then the least id
abbrev pub ready_task : (ℕ → Bool) → Tasks → Option (ℕ × ℕ)
ready_task is_free tasks = ready_from is_free tasks 1 tasks

-- ---- roots that are due

abbrev pub due_from : ℕ → ℕ → Tasks → Option ℕ
due_from stamp id [] = None
due_from stamp id (t ∷ ts) = if option_map_or (is_due stamp) t false then Some id else due_from stamp (suc id) ts

abbrev pub due_root : Tasks → ℕ → Option ℕ
due_root tasks stamp = due_from stamp 1 tasks

-- ---- the action

pub data Action : Type 0 where
  RunsTask : (root task : ℕ) → Action
  StartsRun : (root : ℕ) → Action
  DoesNothing : Action

abbrev pub starts_or_idles : Option ℕ → Action
starts_or_idles None = DoesNothing
starts_or_idles (Some root) = StartsRun root

abbrev pub runs_or : Option (ℕ × ℕ) → Action → Action
runs_or None other = other
runs_or (Some ready) other = RunsTask ready.0 ready.1

unfoldable pub action : (ℕ → Bool) → Tasks → ℕ → Action
action is_free tasks stamp = runs_or (ready_task is_free tasks) (starts_or_idles (due_root tasks stamp))
