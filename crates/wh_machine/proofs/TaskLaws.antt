-- What holds of ticks.
--     tick_moves          the streams whose offsets a tick may move
--     tick_lawful         what a tick does is lawful
use Rattle.std.proofs.Common.{◌≡◌, ℕ, Bool, true, false, not, List, [], ◌∷◌, Option, Some, None, refl, sym, ap}
use Rattle.std.proofs.Common.{◌∙◌, subst, arith, ◌⊎◌, inl, inr}
use Rattle.std.specs.Prelude.{nat_eq, ◌||◌, is_some, unwrap_or}
use Rattle.std.specs.List.{list_any}
use Rattle.std.specs.Option.{option_map_or}
use Rattle.wh_ast.specs.declared.dml.Dml.{Dml}
use Rattle.wh_naming.specs.Changes.{BoundChange}
use Rattle.wh_reply.specs.Reply.{Refusal, Started, Idle}
use Rattle.wh_state.specs.Task.{Succeeded, Failed, Skipped, Task}
use Rattle.wh_state.specs.Act.{Act}
use Rattle.wh_state.specs.Objects.{name_at, task_at}
use Rattle.wh_graph.specs.Action.{Action, RunsTask, StartsRun, DoesNothing}
use Rattle.wh_graph.proofs.ReadyLaws.{ready_is}
use Rattle.wh_machine.specs.Offsets.{with_streams}
use Rattle.wh_machine.specs.Transaction.{Transaction, begun, start_of, staged, staged_in_state, touched, acts_of}
use Rattle.wh_machine.specs.Transaction.{commit_refusal}
use Rattle.wh_machine.specs.Sessions.{Sessions, holder}
use Rattle.wh_machine.specs.Changes.{Changed, Fails, Gives, reply_to}
use Rattle.wh_machine.proofs.EntryLaws.{entries_rise}
use Rattle.wh_machine.specs.Outcome.{Machine, Does, unless}
use Rattle.wh_machine.specs.Statements.{streams_read, bound_changed, changes_in}
use Rattle.wh_machine.specs.Tasks.{live_tasks}
use Rattle.wh_machine.specs.Ticks as ticks
use Rattle.wh_machine.specs.Ticks.{first_held, is_held_back, body_bound, is_free, Verdict, Holds, HoldsNot, verdict}
use Rattle.wh_machine.specs.Ticks.{count_acts, graph_acts, end_acts, aftermath_of, ends_as, fails_by, counts_in}
use Rattle.wh_machine.specs.Ticks.{carried_in}
use Rattle.wh_machine.specs.Ticks.{runs_by, runs_task, run_task, scheduled_acts, starts_run, does_action, action_at}
use Rattle.wh_machine.specs.Ticks.{refreshes, ticked}
use Rattle.wh_moment.specs.Upstream.{dynamics_of}
use Rattle.wh_moment.specs.Moment.{due_table}
use Rattle.wh_machine.specs.Consuming.{reads}
use Rattle.wh_machine.proofs.MoveLaws.{same_number, among_streams}
use Rattle.wh_machine.proofs.HoldLaws.{or_none, one_of, none_reads}
use Rattle.wh_machine.proofs.Lawful.{MovesFree, IsCommitOf, AreOfCommit, IsLawful}
use Rattle.wh_machine.proofs.Lawful.{answered}
use Rattle.wh_machine.proofs.CommitLaws.{acts_are}
use Rattle.wh_machine.proofs.OutcomeLaws.{IsFree, bound_free}
use Rattle.wh_machine.proofs.RefreshLaws.{scheduled_dynamic}
use Rattle.wh_machine.proofs.TaskActs.{task_defined, nothing_commits, ends_lawful}

-- ---- a task's run

-- what nobody holds nobody reads
none_held : (sessions : Sessions) (q id : ℕ) (ids : List ℕ) → first_held sessions ids ≡ None
    → list_any (nat_eq id) ids ≡ true → reads sessions q id ≡ true → ⊥
none_held sessions q id [] none among is = absurd cc
none_held sessions q id (first ∷ ids) none among is =
    by_test (nat_eq id first) refl (or_none (holder sessions first) (first_held sessions ids) none)
    (λ rest more. none_held sessions q id ids rest more is) among
  where
    by_test : (same : Bool) → nat_eq id first ≡ same
        → (holder sessions first ≡ None) × (first_held sessions ids ≡ None)
        → (first_held sessions ids ≡ None → list_any (nat_eq id) ids ≡ true → ⊥)
        → (same || list_any (nat_eq id) ids) ≡ true → ⊥
    by_test true test both more among =
        none_reads sessions q id (ap (holder sessions) (same_number id first test) ∙ both.0) is
    by_test false test both more among = more both.1 among

not_true : (b : Bool) → (b ≡ true → ⊥) → b ≡ false
not_true true none = absurd (none refl)
not_true false none = refl

free_of_held : (m : Machine) (streams : List ℕ) → first_held m.sessions streams ≡ None
    → MovesFree m m.sessions (with_streams streams [])
free_of_held m streams none apart q id held still =
    not_true (list_any (nat_eq id) (with_streams streams [])) (λ among.
    by_part (one_of (list_any (nat_eq id) streams) false (sym (among_streams id streams []) ∙ among)))
  where
    by_part : (list_any (nat_eq id) streams ≡ true) ⊎ (false ≡ true) → ⊥
    by_part (inl among) = none_held m.sessions q id streams none among held
    by_part (inr is) = absurd cc

acts_commit : (m : Machine) (moving : List ℕ) (found : Option (List Act)) → AreOfCommit m moving m.sessions found
    → MovesFree m m.sessions moving → IsCommitOf m moving m.sessions (unwrap_or found [])
acts_commit m moving None are free = nothing_commits m moving free
acts_commit m moving (Some acts) are free = are

failed_lawful : (m : Machine) (moving : List ℕ) (root : ℕ) (r : Task) (task : ℕ) (why : Refusal)
    → MovesFree m m.sessions moving → IsLawful m moving (fails_by m root r task why)
failed_lawful m moving root r task why free =
    ends_lawful m moving _ [] root r task Failed refl (nothing_commits m moving free)

-- the streams that a change reads, where it gives an effect
abbrev Reads : List ℕ → Changed → Type 0
Reads streams (Fails why) = Unit {0}
Reads streams (Gives id read change e) = read ≡ streams

-- its statement as a transaction of its own, by what it comes to
carried_lawful : (m : Machine) (streams : List ℕ) (root : ℕ) (r : Task) (task : ℕ) (c : Changed) → Reads streams c
    → MovesFree m m.sessions (with_streams streams [])
    → IsLawful m (with_streams streams []) (carried_in m root r task (changes_in m 0 None c))
unfolding staged acts_of
carried_lawful m streams root r task (Fails why) is free = failed_lawful m _ root r task why free
carried_lawful m streams root r task (Gives id read change e) is free =
    by_refusal (commit_refusal m.state.objects t)
  where
    t : Transaction
    t = staged_in_state m.state (begun m.state.last) id read e

    moving : List ℕ
    moving = with_streams streams []

    commit : AreOfCommit m moving m.sessions (acts_of m.state.objects t)
    commit = subst (λ (ids : List ℕ). AreOfCommit m (with_streams ids []) m.sessions (acts_of m.state.objects t)) is
        (acts_are m m.sessions t.streams (start_of t) t.streams (touched t) (entries_rise t) (λ begun. omega arith)
        (subst (λ (ids : List ℕ). MovesFree m m.sessions (with_streams ids [])) (sym is) free))

    by_refusal : (found : Option Refusal) → IsLawful m moving
        (carried_in m root r task (unless found (Does (reply_to change e) m.sessions (acts_of m.state.objects t))))
    by_refusal (Some why) = failed_lawful m moving root r task why free
    by_refusal None =
        ends_lawful m moving _ (unwrap_or (acts_of m.state.objects t) []) root r task Succeeded refl
        (acts_commit m moving (acts_of m.state.objects t) commit free)

-- what a change over these reads
bound_reads : (m : Machine) (b : BoundChange) → Reads (streams_read m b) (bound_changed m 0 b)
bound_reads m b = of_free (bound_changed m 0 b) (bound_free m 0 b)
  where
    of_free : (c : Changed) → IsFree m 0 (streams_read m b) c → Reads (streams_read m b) c
    of_free (Fails why) free = tt
    of_free (Gives id read change e) free = free.0

runs_lawful : (m : Machine) (root : ℕ) (r : Task) (task : ℕ) (body : Dml) (v : Verdict)
    → MovesFree m m.sessions (with_streams (streams_read m (body_bound m body)) [])
    → IsLawful m (with_streams (streams_read m (body_bound m body)) []) (runs_by m root r task body v)
runs_lawful m root r task body (ticks.Fails why) free = failed_lawful m _ root r task why free
runs_lawful m root r task body HoldsNot free =
    ends_lawful m _ _ [] root r task Skipped refl (nothing_commits m _ free)
runs_lawful m root r task body Holds free =
    carried_lawful m (streams_read m (body_bound m body)) root r task (bound_changed m 0 (body_bound m body))
    (bound_reads m (body_bound m body)) free

-- ---- ticks

-- the streams that the statement of a task moves
abbrev pub task_moves : Machine → Option Task → List ℕ
task_moves m None = []
task_moves m (Some t) = with_streams (streams_read m (body_bound m t.runs.body)) []

abbrev pub action_moves : Machine → Action → List ℕ
action_moves m (RunsTask root task) = task_moves m (task_at m.state.objects task)
action_moves m (StartsRun root) = []
action_moves m DoesNothing = []

abbrev pub tick_moves : Machine → List ℕ
tick_moves m = action_moves m (action_at m)

run_lawful : (m : Machine) (root task : ℕ) → is_free m task ≡ true
    → IsLawful m (task_moves m (task_at m.state.objects task)) (run_task m root task)
unfolding run_task is_free
run_lawful m root task free = by_tasks (task_at m.state.objects root) (task_at m.state.objects task) free
  where
    none_held_back : (found : Option ℕ) → not (is_some found) ≡ true → found ≡ None
    none_held_back None is = refl
    none_held_back (Some number) is = absurd cc

    by_tasks : (r t : Option Task)
        → option_map_or (λ t. not (is_held_back m (body_bound m t.runs.body))) t false ≡ true
        → IsLawful m (task_moves m t) (runs_task m root task r t)
    by_tasks r None free = absurd cc
    by_tasks None (Some t) free = answered m Idle refl
    by_tasks (Some r) (Some t) free =
        let b : BoundChange = body_bound m t.runs.body in
        runs_lawful m root r task t.runs.body (verdict m t.runs.when)
        (free_of_held m (streams_read m b)
        (or_none (holder m.sessions b.target) (first_held m.sessions (streams_read m b))
        (none_held_back (first_held m.sessions (b.target ∷ streams_read m b)) free)).1)

start_lawful : (m : Machine) (root : ℕ) (found : Option Task) → IsLawful m [] (starts_run m root found)
start_lawful m root None = answered m Idle refl
start_lawful m root (Some r) =
    task_defined m (Started (name_at m.state.objects root)) _ refl (tt, (tt, tt))

due_lawful : (m : Machine) (due : Option (ℕ × ℕ)) → IsLawful m [] (refreshes m due)
due_lawful m None = answered m Idle refl
due_lawful m (Some due) = scheduled_dynamic m due.0 due.1

action_lawful : (m : Machine) (a : Action) → action_at m ≡ a → IsLawful m (action_moves m a) (does_action m a)
action_lawful m (RunsTask root task) is =
    run_lawful m root task (ready_is (is_free m) (live_tasks m.state.objects) m.state.last root task is).holds.0
action_lawful m (StartsRun root) is = start_lawful m root (task_at m.state.objects root)
action_lawful m DoesNothing is = due_lawful m (due_table (dynamics_of m.state.objects) m.state.last)

pub tick_lawful : (m : Machine) → IsLawful m (tick_moves m) (ticked m)
unfolding ticked
tick_lawful m = action_lawful m (action_at m) refl
