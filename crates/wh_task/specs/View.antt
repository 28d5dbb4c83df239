-- What tasks of the code stand for.
use Rattle.std.specs.Prelude.{List, map, Option, option_map}
use denote.Ref.{Bor}
use Rattle.wh_state.specs.Task as state
use Rattle.wh_graph.specs.Graph.{Tasks}
use Rattle.wh_graph.specs.Action as graph
use Rattle.wh_task.specs.declared.run.Ending.{Ending}
use Rattle.wh_task.specs.declared.run.Ending.TheVariants as endings
use Rattle.wh_task.specs.declared.run.TaskRun.{TaskRun}
use Rattle.wh_task.specs.declared.state.TaskState.{TaskState}
use Rattle.wh_task.specs.declared.task.Task.{Task}
use Rattle.wh_task.specs.declared.task.TaskBody.{TaskBody}
use Rattle.wh_task.specs.declared.action.Action.{Action}
use Rattle.wh_task.specs.declared.action.Action.TheVariants as actions

abbrev pub ending_of : Ending → state.Ending
ending_of endings.Succeeded = state.Succeeded
ending_of endings.Failed = state.Failed
ending_of endings.Skipped = state.Skipped

abbrev pub task_run_of : TaskRun → state.TaskRun
task_run_of r = record { task = r.task; ending = option_map ending_of r.ending }

abbrev pub run_of : List TaskRun → state.Run
run_of run = map task_run_of run

abbrev pub state_of : TaskState → state.TaskState
state_of s =
    record { is_resumed = s.is_resumed; base = s.base; last_start = s.last_start; failures = s.failures }

abbrev pub body_of : TaskBody → state.TaskBody
body_of b = record { when = b.when; body = b.body; body_text = b.body_text }

abbrev pub task_of : Task → state.Task
task_of t = record {
  minutes = t.minutes;
  after = t.after.items;
  root = t.root;
  runs = body_of t.runs;
  state = state_of t.state;
  run = run_of t.run.items;
}

-- live tasks by their ids
abbrev pub live_of : Option (Bor Task) → Option state.Task
live_of task = option_map (λ t. task_of t.now) task

abbrev pub tasks_of : List (Option (Bor Task)) → Tasks
tasks_of tasks = map live_of tasks

abbrev pub action_of : Action → graph.Action
action_of (actions.RunTask root task) = graph.RunsTask root task
action_of (actions.StartRun root) = graph.StartsRun root
action_of actions.Nothing = graph.DoesNothing
