-- What the run of a task consumes.
--     run_batch         where it succeeds, of each stream that its statement reads what the statement reads of it
--     others_stay       every other tick leaves each stream as it was: a condition moves none, and neither does a
--                       statement that fails
use Rattle.std.proofs.Common.{◌≡◌, ℕ, true, false, List, [], map, Option, Some, None, refl, sym, ap, ◌∙◌}
use Rattle.wh_ast.specs.declared.dml.Dml.{Dml}
use Rattle.wh_meaning.specs.Bag.{bag_of}
use Rattle.wh_reply.specs.Reply.{Refusal, is_refusal}
use Rattle.wh_net.specs.Stream.{shown_row}
use Rattle.wh_graph.specs.Action.{Action, RunsTask, StartsRun, DoesNothing}
use Rattle.wh_state.specs.State.{Stream}
use Rattle.wh_state.specs.Act.{Act}
use Rattle.wh_state.specs.Objects.{task_at, stream_at}
use Rattle.wh_state.specs.Task.{Task, Succeeded, Failed, Skipped}
use Rattle.wh_machine.specs.Changes.{Changed, Fails, Gives, reply_to}
use Rattle.wh_machine.specs.Transaction.{Transaction, begun, staged, staged_in_state, commit_refusal, acts_of}
use Rattle.wh_machine.specs.Sessions.{transaction_in}
use Rattle.wh_machine.specs.Outcome.{Machine, Outcome, Refuses, Does, unless, settled}
use Rattle.wh_machine.specs.Reading.{start_in, rows_read}
use Rattle.wh_machine.specs.Statements.{bound_changed, changes_in}
use Rattle.wh_machine.specs.Ticks as ticks
use Rattle.wh_machine.specs.Ticks.{Verdict, Holds, HoldsNot, verdict, body_bound, carried_in, runs_by, runs_task}
use Rattle.wh_machine.specs.Ticks.{run_task}
use Rattle.wh_machine.specs.Ticks.{scheduled_acts, starts_run, refreshes, does_action, action_at, ticked}
use Rattle.wh_machine.specs.Dynamics.{scheduled}
use Rattle.wh_moment.specs.Upstream.{dynamics_of}
use Rattle.wh_moment.specs.Moment.{due_table}
use Rattle.wh_machine.specs.Consuming.{consumed, change_reads, task_reads, action_consumes, event_consumes}
use Rattle.wh_machine.specs.Consuming.{has_succeeded}
use Rattle.wh_machine.specs.Step.{Event, Tick, step}
use Rattle.wh_machine.proofs.MoveLaws.{read_to}
use Rattle.wh_machine.proofs.Lawful.{IsLawful}
use Rattle.wh_machine.proofs.RefreshLaws.{scheduled_dynamic}
use Rattle.wh_machine.proofs.ReadLaws.{read_by, change_moves}
use Rattle.wh_machine.proofs.StepLaws.{ready, each_event}
use Rattle.wh_machine.proofs.TaskActs.{spares_tasks, ends_spare}
use Rattle.wh_machine.proofs.BatchLaws.{IsReadIn, changed_read, consumed_rows}

-- ---- a run that doesn't succeed, and what is no run

carried_stays : (m : Machine) (root : ℕ) (r : Task) (task id : ℕ) (s : Stream) (o : Outcome)
    → stream_at m.state.objects id ≡ Some s → has_succeeded (settled m (carried_in m root r task o)).1 ≡ false
    → stream_at (settled m (carried_in m root r task o)).0.state.objects id ≡ Some s
carried_stays m root r task id s (Refuses why) at otherwise = ends_spare m root r task Failed [] id s at
carried_stays m root r task id s (Does reply sessions acts) at otherwise = absurd cc

runs_stay : (m : Machine) (root : ℕ) (r : Task) (task id : ℕ) (s : Stream) (body : Dml) (v : Verdict)
    → stream_at m.state.objects id ≡ Some s → has_succeeded (settled m (runs_by m root r task body v)).1 ≡ false
    → stream_at (settled m (runs_by m root r task body v)).0.state.objects id ≡ Some s
runs_stay m root r task id s body (ticks.Fails why) at otherwise = ends_spare m root r task Failed [] id s at
runs_stay m root r task id s body HoldsNot at otherwise = ends_spare m root r task Skipped [] id s at
runs_stay m root r task id s body Holds at otherwise =
    carried_stays m root r task id s (changes_in m 0 None (bound_changed m 0 (body_bound m body))) at otherwise

task_stays : (m : Machine) (root task id : ℕ) (s : Stream) (r t : Option Task) → stream_at m.state.objects id ≡ Some s
    → has_succeeded (settled m (runs_task m root task r t)).1 ≡ false
    → stream_at (settled m (runs_task m root task r t)).0.state.objects id ≡ Some s
task_stays m root task id s None t at otherwise = at
task_stays m root task id s (Some r) None at otherwise = at
task_stays m root task id s (Some r) (Some t) at otherwise =
    runs_stay m root r task id s t.runs.body (verdict m t.runs.when) at otherwise

-- what is lawful and moves none
unmoved_stays : (m : Machine) (id : ℕ) (s : Stream) (o : Outcome) → IsLawful m [] o
    → stream_at m.state.objects id ≡ Some s
    → stream_at (settled m o).0.state.objects id ≡ Some s
unmoved_stays m id s (Refuses why) holds at = at
unmoved_stays m id s (Does reply sessions None) holds at = at
unmoved_stays m id s (Does reply sessions (Some acts)) holds at = holds.acts.stays id s at refl

start_stays : (m : Machine) (root id : ℕ) (s : Stream) (found : Option Task) → stream_at m.state.objects id ≡ Some s
    → stream_at (settled m (starts_run m root found)).0.state.objects id ≡ Some s
start_stays m root id s None at = at
start_stays m root id s (Some r) at =
    spares_tasks m (scheduled_acts m.state.objects m.state.last root r.state) (tt, (tt, tt)) id s at

-- a refresh moves none
due_stays : (m : Machine) (id : ℕ) (s : Stream) (due : Option (ℕ × ℕ)) → stream_at m.state.objects id ≡ Some s
    → stream_at (settled m (refreshes m due)).0.state.objects id ≡ Some s
due_stays m id s None at = at
due_stays m id s (Some due) at =
    unmoved_stays m id s (scheduled m due.0 due.1) (scheduled_dynamic m due.0 due.1) at

action_stays : (m : Machine) (id : ℕ) (s : Stream) (a : Action) → stream_at m.state.objects id ≡ Some s
    → has_succeeded (settled m (does_action m a)).1 ≡ false
    → stream_at (settled m (does_action m a)).0.state.objects id ≡ Some s
unfolding run_task
action_stays m id s (RunsTask root task) at otherwise =
    task_stays m root task id s (task_at m.state.objects root) (task_at m.state.objects task) at otherwise
action_stays m id s (StartsRun root) at otherwise = start_stays m root id s (task_at m.state.objects root) at
action_stays m id s DoesNothing at otherwise =
    due_stays m id s (due_table (dynamics_of m.state.objects) m.state.last) at

pub others_stay : (reading id : ℕ) (m : Machine) (s : Stream) → stream_at m.state.objects id ≡ Some s
    → has_succeeded (step m (Tick reading)).1 ≡ false
    → stream_at (step m (Tick reading)).0.state.objects id ≡ Some s
unfolding ticked
others_stay reading id m s at otherwise =
    let now : Machine = ready m (Tick reading) in
    each_event m (Tick reading)
    (λ p acts. has_succeeded p.1 ≡ false → stream_at p.0.state.objects id ≡ Some s)
    (action_stays now id s (action_at now) at) (λ otherwise. at) otherwise

-- ---- a run that succeeds

carried_moves : (m : Machine) (root : ℕ) (r : Task) (task id : ℕ) (s : Stream) (c : Changed)
    → transaction_in m.sessions 0 ≡ None → IsReadIn true id c → stream_at m.state.objects id ≡ Some s
    → has_succeeded (settled m (carried_in m root r task (changes_in m 0 None c))).1 ≡ true
    → stream_at (settled m (carried_in m root r task (changes_in m 0 None c))).0.state.objects id
    ≡ Some (read_to (start_in m 0) s)
unfolding staged acts_of
carried_moves m root r task id s (Fails why) closed among at succeeded = absurd cc
carried_moves m root r task id s (Gives target streams change e) closed among at succeeded =
    by_refusal (commit_refusal m.state.objects t) (acts_of m.state.objects t)
    (change_moves m 0 target streams change e id s closed at among) succeeded
  where
    t : Transaction
    t = staged_in_state m.state (begun m.state.last) target streams e

    moved : Stream
    moved = read_to (start_in m 0) s

    by_refusal : (found : Option Refusal) (acts : Option (List Act))
        → (is_refusal (settled m (unless found (Does (reply_to change e) m.sessions acts))).1 ≡ false
        → stream_at (settled m (unless found (Does (reply_to change e) m.sessions acts))).0.state.objects id
        ≡ Some moved)
        → has_succeeded (settled m (carried_in m root r task
        (unless found (Does (reply_to change e) m.sessions acts)))).1 ≡ true
        → stream_at (settled m (carried_in m root r task
        (unless found (Does (reply_to change e) m.sessions acts)))).0.state.objects id ≡ Some moved
    by_refusal (Some why) acts moves succeeded = absurd cc
    by_refusal None None moves succeeded = ends_spare m root r task Succeeded [] id moved (moves refl)
    by_refusal None (Some acts) moves succeeded = ends_spare m root r task Succeeded acts id moved (moves refl)

runs_move : (m : Machine) (root : ℕ) (r : Task) (task id : ℕ) (s : Stream) (body : Dml) (v : Verdict)
    → transaction_in m.sessions 0 ≡ None → change_reads m body id ≡ true → stream_at m.state.objects id ≡ Some s
    → has_succeeded (settled m (runs_by m root r task body v)).1 ≡ true
    → stream_at (settled m (runs_by m root r task body v)).0.state.objects id ≡ Some (read_to (start_in m 0) s)
runs_move m root r task id s body (ticks.Fails why) closed among at succeeded = absurd cc
runs_move m root r task id s body HoldsNot closed among at succeeded = absurd cc
runs_move m root r task id s body Holds closed among at succeeded =
    carried_moves m root r task id s (bound_changed m 0 (body_bound m body)) closed
    (changed_read true m 0 id body among) at succeeded

task_moves : (m : Machine) (root task id : ℕ) (s : Stream) (r t : Option Task) → transaction_in m.sessions 0 ≡ None
    → task_reads id m t ≡ true → stream_at m.state.objects id ≡ Some s
    → has_succeeded (settled m (runs_task m root task r t)).1 ≡ true
    → stream_at (settled m (runs_task m root task r t)).0.state.objects id ≡ Some (read_to (start_in m 0) s)
task_moves m root task id s None t closed among at succeeded = absurd cc
task_moves m root task id s (Some r) None closed among at succeeded = absurd cc
task_moves m root task id s (Some r) (Some t) closed among at succeeded =
    runs_move m root r task id s t.runs.body (verdict m t.runs.when) closed among at succeeded

action_moves : (m : Machine) (id : ℕ) (s : Stream) (a : Action) → transaction_in m.sessions 0 ≡ None
    → action_consumes id m a ≡ true → stream_at m.state.objects id ≡ Some s
    → has_succeeded (settled m (does_action m a)).1 ≡ true
    → stream_at (settled m (does_action m a)).0.state.objects id ≡ Some (read_to (start_in m 0) s)
unfolding run_task
action_moves m id s (RunsTask root task) closed among at succeeded =
    task_moves m root task id s (task_at m.state.objects root) (task_at m.state.objects task) closed among at succeeded
action_moves m id s (StartsRun root) closed among at succeeded = absurd cc
action_moves m id s DoesNothing closed among at succeeded = absurd cc

-- no command is one of session 0, for which tasks run
pub run_batch : (reading id : ℕ) (m : Machine) (s : Stream) → transaction_in m.sessions 0 ≡ None
    → stream_at m.state.objects id ≡ Some s → event_consumes id (ready m (Tick reading)) (Tick reading) ≡ true
    → has_succeeded (step m (Tick reading)).1 ≡ true
    → bag_of (map (shown_row s.source) (consumed id m (Tick reading))) ≡ rows_read (ready m (Tick reading)) 0 id
unfolding ticked
run_batch reading id m s closed at among succeeded =
    let e : Event = Tick reading in
    let now : Machine = ready m e in
    let moved : stream_at (step m e).0.state.objects id ≡ Some (read_to (start_in now 0) s) =
    each_event m e
    (λ p acts. has_succeeded p.1 ≡ true → stream_at p.0.state.objects id ≡ Some (read_to (start_in now 0) s))
    (action_moves now id s (action_at now) closed among at) (λ succeeded. absurd cc) succeeded in
    ap bag_of (consumed_rows m e id (start_in now 0) s at moved) ∙ sym (read_by now 0 id s at)
