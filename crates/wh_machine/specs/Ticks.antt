-- Ticks: the task that is ready, the root that is due, and what running a task does.
--     is_free              whether no open transaction holds what a task's statement changes or consumes
--     Guard, verdict       WHEN: a refusal, or whether it holds
--     end_acts             the acts of a task's end
--     run_task, ticked     the outcomes of a task's run, and of a tick
use Rattle.std.specs.Prelude.{ℕ, Bool, true, false, not, ◌&&◌, ◌||◌, if◌then◌else◌, List, [], ◌∷◌, ◌++◌, map}
use Rattle.std.specs.Prelude.{Option, Some, None, is_some, unwrap_or, nat_eq}
use Rattle.std.specs.List.{flat_map}
use Rattle.std.specs.Option.{option_map_or, option_to_list}
use Rattle.wh_ast.specs.declared.dml.Dml.{Dml}
use Rattle.wh_ast.specs.declared.statement.When.{When}
use Rattle.wh_ast.specs.declared.statement.WhenCondition.{WhenCondition, fold-WhenCondition}
use Rattle.wh_ast.specs.declared.statement.WhenCondition.TheOpen.{WhenCondition-F}
use Rattle.wh_naming.specs.Changes.{BoundChange, bound_change}
use Rattle.wh_reply.specs.Reply.{Refusal, Reply, UnknownName, WrongKind, RowCounts, GraphEnd, Aftermath, Started}
use Rattle.wh_reply.specs.Reply.{TaskSucceeded, TaskSkipped, TaskFailed, Idle}
use Rattle.wh_reply.specs.Reply as replies
use Rattle.wh_net.specs.Stream.{rows_shown, has_rows}
use Rattle.wh_state.specs.Task.{Ending, Succeeded, Failed, Skipped, Run, TaskState, Task}
use Rattle.wh_state.specs.State.{Object, id_of}
use Rattle.wh_state.specs.Act.{Act, PutsTask, EndsTask}
use Rattle.wh_state.specs.Objects.{name_at, task_at, stream_at, is_stream, is_kind_at}
use Rattle.wh_graph.specs.Graph.{is_under_way, skipped_behind, run_behind, has_failed}
use Rattle.wh_graph.specs.Root.{is_tenth, state_behind}
use Rattle.wh_graph.specs.Action.{Action, RunsTask, StartsRun, DoesNothing, action}
use Rattle.wh_machine.specs.Tests.{refused_if, first_of}
use Rattle.wh_machine.specs.Names.{names_from}
use Rattle.wh_machine.specs.Sessions.{Sessions, holder, or_later}
use Rattle.wh_machine.specs.Outcome.{Machine, Outcome, Refuses, Does, answers, commits}
use Rattle.wh_machine.specs.Reading.{start_in, reading_refusal}
use Rattle.wh_machine.specs.Statements.{streams_read, bound_changed, changes_in}
use Rattle.wh_moment.specs.Moment.{due_table}
use Rattle.wh_moment.specs.Upstream.{dynamics_of}
use Rattle.wh_machine.specs.Dynamics.{scheduled}
use Rattle.wh_machine.specs.Tasks.{live_tasks, start_acts}

-- ---- readiness

-- the number of a transaction that holds the first of some objects that one holds
abbrev pub first_held : Sessions → List ℕ → Option ℕ
first_held sessions [] = None
first_held sessions (id ∷ ids) = or_later (holder sessions id) (first_held sessions ids)

abbrev pub is_held_back : Machine → BoundChange → Bool
is_held_back m b = is_some (first_held m.sessions (b.target ∷ streams_read m b))

abbrev pub body_bound : Machine → Dml → BoundChange
body_bound m body = bound_change (names_from 1 m.state.objects) body

-- its target and its sources are the live objects that have the names now, whatever their kinds
unfoldable pub is_free : Machine → ℕ → Bool
is_free m id = option_map_or (λ t. not (is_held_back m (body_bound m t.runs.body))) (task_at m.state.objects id) false

-- ---- WHEN

-- what a condition asks for, in the order of the text, and whether it holds by what is so of each stream
pub record Guard : Type 0 where
  pub streams : List (List ℕ)
  pub holds : (List ℕ → Bool) → Bool

unfoldable pub guard_step : WhenCondition-F Guard → Guard
guard_step (WhenCondition-F.Or a b) =
    record { streams = a.streams ++ b.streams; holds = λ has. a.holds has || b.holds has }
guard_step (WhenCondition-F.And a b) =
    record { streams = a.streams ++ b.streams; holds = λ has. a.holds has && b.holds has }
guard_step (WhenCondition-F.Not a) = record { streams = a.streams; holds = λ has. not (a.holds has) }
guard_step (WhenCondition-F.HasData name) = record { streams = name ∷ []; holds = λ has. has name }

abbrev pub guard_of : WhenCondition → Guard
guard_of condition = fold-WhenCondition Guard guard_step condition

abbrev pub unknown_in : List Object → List ℕ → Option Refusal
unknown_in objects name = refused_if (not (is_some (id_of name objects))) (UnknownName name)

abbrev pub no_stream_in : List Object → List ℕ → Option Refusal
no_stream_in objects name =
    refused_if (option_map_or (λ id. not (is_kind_at is_stream objects id)) (id_of name objects) false) (WrongKind name)

-- each test goes over all of its streams before the next one
unfoldable pub guard_refusal : Machine → List (List ℕ) → Option Refusal
guard_refusal m streams = first_of (
    map (unknown_in m.state.objects) streams
    ++ map (no_stream_in m.state.objects) streams
    ++ reading_refusal m.state.objects m.state.last
    (flat_map (λ name. option_to_list (id_of name m.state.objects)) streams)
    ∷ [])

-- whether the stream of a name has rows to show now
abbrev pub shows : Machine → List ℕ → Bool
shows m name = option_map_or (λ id. option_map_or (λ s. has_rows (rows_shown m.state.objects s (start_in m 0)))
    (stream_at m.state.objects id) false) (id_of name m.state.objects) false

pub data Verdict : Type 0 where
  Fails : Refusal → Verdict
  Holds : Verdict
  HoldsNot : Verdict

abbrev pub verdict_by : Option Refusal → Bool → Verdict
verdict_by (Some why) holds = Fails why
verdict_by None true = Holds
verdict_by None false = HoldsNot

abbrev pub guard_verdict : Machine → Guard → Verdict
guard_verdict m g = verdict_by (guard_refusal m g.streams) (g.holds (shows m))

-- a task without a condition runs
abbrev pub verdict : Machine → Option When → Verdict
verdict m when = option_map_or (λ w. guard_verdict m (guard_of w.condition)) when Holds

-- ---- the end of a task

-- where the count of a root changes
abbrev pub count_acts : ℕ → TaskState → TaskState → List Act
count_acts root old new = if nat_eq old.failures new.failures then [] else PutsTask root new ∷ []

abbrev pub graph_acts : ℕ → TaskState → Run → List Act
graph_acts root s behind = if is_under_way behind then [] else count_acts root s (state_behind (has_failed behind) s)

-- its own end, those of the tasks behind it that become SKIPPED, and the root's state where the run ends
unfoldable pub end_acts : List Object → ℕ → Task → ℕ → Ending → List Act
end_acts objects root r task ending = EndsTask root task ending
    ∷ map (λ id. EndsTask root id Skipped) (skipped_behind (live_tasks objects) r.run task ending)
    ++ graph_acts root r.state (run_behind (live_tasks objects) r.run task ending)

abbrev pub graph_end : Machine → ℕ → TaskState → Run → Option GraphEnd
graph_end m root s behind = if is_under_way behind then None else Some (record {
  root = name_at m.state.objects root;
  has_failed = has_failed behind;
  is_suspended = is_tenth (has_failed behind) s;
})

unfoldable pub aftermath_of : Machine → ℕ → Task → ℕ → Ending → Aftermath
aftermath_of m root r task ending = record {
  skipped = map (name_at m.state.objects) (skipped_behind (live_tasks m.state.objects) r.run task ending);
  graph = graph_end m root r.state (run_behind (live_tasks m.state.objects) r.run task ending);
}

-- ---- the outcome of a task's run: the acts of its statement, and then those of its end, in one commit

abbrev pub ends_as : Machine → ℕ → Task → ℕ → Ending → Reply → List Act → Outcome
ends_as m root r task ending reply acts = commits m reply (acts ++ end_acts m.state.objects root r task ending)

abbrev pub fails_by : Machine → ℕ → Task → ℕ → Refusal → Outcome
fails_by m root r task why = ends_as m root r task Failed
    (TaskFailed (name_at m.state.objects task) why (aftermath_of m root r task Failed)) []

abbrev pub counts_in : Reply → RowCounts
counts_in (replies.Changed counts) = counts
counts_in _ = replies.Inserted 0

-- by what its statement comes to as a transaction of its own
abbrev pub carried_in : Machine → ℕ → Task → ℕ → Outcome → Outcome
carried_in m root r task (Refuses why) = fails_by m root r task why
carried_in m root r task (Does reply sessions acts) = ends_as m root r task Succeeded
    (TaskSucceeded (name_at m.state.objects task) (counts_in reply) (aftermath_of m root r task Succeeded))
    (unwrap_or acts [])

abbrev pub runs_by : Machine → ℕ → Task → ℕ → Dml → Verdict → Outcome
runs_by m root r task body (Fails why) = fails_by m root r task why
runs_by m root r task body HoldsNot = ends_as m root r task Skipped
    (TaskSkipped (name_at m.state.objects task) (aftermath_of m root r task Skipped)) []
runs_by m root r task body Holds =
    carried_in m root r task (changes_in m 0 None (bound_changed m 0 (body_bound m body)))

abbrev pub runs_task : Machine → ℕ → ℕ → Option Task → Option Task → Outcome
runs_task m root task (Some r) (Some t) = runs_by m root r task t.runs.body (verdict m t.runs.when)
runs_task m root task _ _ = answers m Idle

unfoldable pub run_task : Machine → ℕ → ℕ → Outcome
run_task m root task = runs_task m root task (task_at m.state.objects root) (task_at m.state.objects task)

-- ---- ticks

-- a start by the schedule
abbrev pub scheduled_acts : List Object → ℕ → ℕ → TaskState → List Act
scheduled_acts objects stamp root s = PutsTask root (record s { last_start = stamp }) ∷ start_acts objects root

abbrev pub starts_run : Machine → ℕ → Option Task → Outcome
starts_run m root None = answers m Idle
starts_run m root (Some r) =
    commits m (Started (name_at m.state.objects root)) (scheduled_acts m.state.objects m.state.last root r.state)

-- behind a ready task and a due root, the refresh of the dynamic table that is due
abbrev pub refreshes : Machine → Option (ℕ × ℕ) → Outcome
refreshes m None = answers m Idle
refreshes m (Some due) = scheduled m due.0 due.1

abbrev pub does_action : Machine → Action → Outcome
does_action m (RunsTask root task) = run_task m root task
does_action m (StartsRun root) = starts_run m root (task_at m.state.objects root)
does_action m DoesNothing = refreshes m (due_table (dynamics_of m.state.objects) m.state.last)

abbrev pub action_at : Machine → Action
action_at m = action (is_free m) (live_tasks m.state.objects) m.state.last

unfoldable pub ticked : Machine → Outcome
ticked m = does_action m (action_at m)
