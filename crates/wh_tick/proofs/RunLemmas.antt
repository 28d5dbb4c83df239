-- What a task's statement comes to, and then the task's run.
--     changes_for      the changes of a statement's commit
--     run_by, no_root, no_task     a task's run, of what is found
--     ticked_as        a tick, by what it carries out
use Rattle.std.proofs.Common.{◌≡◌, ℕ, List, [], Option, Some, None, option_map, refl, ap}
use Rattle.std.specs.Prelude.{unwrap_or}
use Rattle.std.specs.Option.{option_map_or}
use Rattle.wh_reply.specs.Reply.{Idle}
use Rattle.wh_state.specs.Act.{Act}
use Rattle.wh_state.specs.Objects.{task_at}
use Rattle.wh_state.specs.Stored.{Stored}
use Rattle.wh_state.specs.Commit.{Change}
use Rattle.wh_state.specs.Task.{Task}
use Rattle.wh_state.specs.Written.{written, commit_for}
use Rattle.wh_graph.specs.Action.{Action}
use Rattle.wh_machine.specs.Outcome.{Machine, answers}
use Rattle.wh_machine.specs.Ticks.{runs_task, run_task, does_action, action_at, ticked}

pub changes_for : (s : Stored) (stamp : ℕ) (acts : Option (List Act))
    → ◌≡◌ {A = List Change} (option_map_or (λ c. c.changes) (option_map (commit_for s stamp) acts) [])
    (written stamp s.objects (unwrap_or acts []))
changes_for s stamp None = refl
changes_for s stamp (Some acts) = refl

-- of a root and a task as they are found
pub run_by : (m : Machine) (root task : ℕ) (r t : Option Task) → r ≡ task_at m.state.objects root
    → t ≡ task_at m.state.objects task → runs_task m root task r t ≡ run_task m root task
unfolding run_task
run_by m root task r t is_root is_task = λ i. runs_task m root task (is_root i) (is_task i)

-- no root
pub no_root : (m : Machine) (root task : ℕ) → None ≡ task_at m.state.objects root
    → answers m Idle ≡ run_task m root task
no_root m root task none = run_by m root task None (task_at m.state.objects task) none refl

-- no task of a root that is there
pub no_task : (m : Machine) (root task : ℕ) (r : Task) → Some r ≡ task_at m.state.objects root
    → None ≡ task_at m.state.objects task → answers m Idle ≡ run_task m root task
no_task m root task r there none = run_by m root task (Some r) None there none

pub ticked_as : (m : Machine) (a : Action) → a ≡ action_at m → does_action m a ≡ ticked m
unfolding ticked
ticked_as m a is = ap (does_action m) is
