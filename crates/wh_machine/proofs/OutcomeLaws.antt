-- What a statement may come to.
--     moved_by      the streams whose offsets a statement may move
--     statement     what a statement does is lawful
use Rattle.std.proofs.Common.{◌≡◌, ℕ, zero, suc, ◌-◌, ◌≤◌, Bool, true, false, List, [], ◌∷◌, ◌++◌, ◌⊎◌}
use Rattle.std.proofs.Common.{inl, inr, Option, Some, None, option_map, refl, sym, ap, ◌∙◌, subst, arith}
use Rattle.std.specs.Prelude.{nat_eq, slice_set}
use Rattle.std.specs.List.{list_any}
use Rattle.wh_meaning.specs.Bag.{Bag}
use Rattle.wh_meaning.specs.Query.{eval}
use Rattle.wh_meaning.specs.Listing.{listed}
use Rattle.wh_naming.specs.Changes.{BoundChange, Modification}
use Rattle.wh_naming.specs.Select.{BoundSelect}
use Rattle.wh_effect.specs.Effect as effects
use Rattle.wh_effect.specs.Effect.{Effect}
use Rattle.wh_reply.specs.Reply.{Refusal, Reply}
use Rattle.wh_reply.specs.Reply.{NumberOutOfRange, NoTransaction, CreatedTable, DroppedTable, CreatedStream}
use Rattle.wh_reply.specs.Reply.{DroppedStream, HasData, Begun, RolledBack, Listing}
use Rattle.wh_reply.specs.Reply.{Locked}
use Rattle.wh_reply.specs.Reply.{is_refusal}
use Rattle.wh_state.specs.State.{Table, Stream}
use Rattle.wh_state.specs.Act.{Act, MakesTable, DropsObject, MakesStream}
use Rattle.wh_machine.specs.Tests.{first_of}
use Rattle.wh_state.specs.Objects.{name_at, table_at, stream_at}
use Rattle.wh_machine.specs.Offsets.{with_streams}
use Rattle.wh_state.proofs.AllLaws.{all_with}
use Rattle.wh_net.specs.Stream.{rows_shown, has_rows}
use Rattle.wh_machine.specs.Transaction.{Transaction, begun, start_at, staged, staged_in_state}
use Rattle.wh_machine.specs.Transaction.{acts_of, next_row_of}
use Rattle.wh_machine.specs.Sessions.{Sessions, transaction_in, with_ended, locked_by, first_locked}
use Rattle.wh_machine.specs.Sessions.{with_begun}
use Rattle.wh_ddl_naming.specs.Tables.{NewTable}
use Rattle.wh_ddl_naming.specs.Statements as ddl
use Rattle.wh_ddl_naming.specs.Statements.{Bound}
use Rattle.wh_machine.specs.Names.{naming_refusal}
use Rattle.wh_machine.specs.Changes.{Changed, Fails, Gives, given, given_on, fails_or, reply_to}
use Rattle.wh_machine.specs.Outcome.{Machine, Outcome, Does, commits}
use Rattle.wh_machine.specs.Queries.{listing_of}
use Rattle.wh_machine.specs.Reading.{objects_seen, start_in, instance_read, reading_refusal, asked, has_data}
use Rattle.wh_machine.specs.Definitions.{drops, defines}
use Rattle.wh_machine.specs.Tables.{retention_of, table_made, create_table, drop_table}
use Rattle.wh_machine.specs.Streams.{create_stream, drop_stream}
use Rattle.wh_machine.specs.Statements.{begin, commit_reply, commit_of, commit, rollback_of, rollback}
use Rattle.wh_machine.specs.Statements.{streams_read, change_refusal, bound_changed, changes_in, changes_rows}
use Rattle.wh_machine.specs.Statements.{selects, carried_out}
use Rattle.wh_machine.specs.Sound.{IsBegun, AreBegun}
use Rattle.wh_machine.specs.Consuming.{is_read_by, reads}
use Rattle.wh_machine.proofs.MoveLaws.{among_streams}
use Rattle.wh_machine.proofs.HoldLaws.{or_none, one_of, free_of, apart_put, apart_staged, ended_reads}
use Rattle.wh_machine.proofs.HoldLaws.{number_put}
use Rattle.wh_machine.proofs.Lawful.{KeepsSessions, MovesFree}
use Rattle.wh_machine.proofs.Lawful.{IsLawful, same_sessions, refuses, does, tested, tested_last, answered}
use Rattle.wh_machine.proofs.CommitLaws.{defined, recorded_holds}
use Rattle.std.specs.Prelude.{unwrap_or}
use Rattle.wh_reply.specs.Reply.{CreatedTask, DroppedTask, Resumed, Suspended, Started}
use Rattle.wh_state.specs.Act.{MakesTask}
use Rattle.wh_state.specs.Objects.{task_at}
use Rattle.wh_machine.specs.Tasks.{create_task, body_of, resume_task, resumed_state, suspend_task, suspended_state}
use Rattle.wh_machine.specs.Tasks.{execute_task, start_acts, drop_task}
use Rattle.wh_machine.proofs.TaskActs.{put_is, task_defined}
use Rattle.wh_reply.specs.Reply.{Altered, DroppedDynamicTable}
use Rattle.wh_machine.specs.Dynamics.{query_of, asked_refresh, create_dynamic, resume_dynamic, suspend_dynamic}
use Rattle.wh_machine.specs.Dynamics.{refresh_dynamic, set_lag, drop_dynamic}
use Rattle.wh_machine.proofs.RefreshLaws.{refresh_acts, created_dynamic, refreshed_dynamic, altered_dynamic}

-- ---- objects that are made and dropped

created : (m : Machine) (n : NewTable) → IsLawful m [] (commits m (CreatedTable n.name) (table_made n))
created m n = by_replaced n.replaced
  where
    made : Act
    made = MakesTable n.name n.columns (retention_of n)

    by_replaced : (replaced : Option ℕ)
        → IsLawful m [] (commits m (CreatedTable n.name) (drops replaced ++ made ∷ []))
    by_replaced None = defined m (CreatedTable n.name) (made ∷ []) refl (tt, tt)
    by_replaced (Some id) =
        defined m (CreatedTable n.name) (DropsObject id ∷ made ∷ []) refl (tt, (tt, tt))

dropped : (m : Machine) (reply : Reply) (id : ℕ) → is_refusal reply ≡ false
    → IsLawful m [] (commits m reply (DropsObject id ∷ []))
dropped m reply id accepted = defined m reply (DropsObject id ∷ []) accepted (tt, tt)

definition : (m : Machine) {moving : List ℕ} (session : ℕ) (old : Option ℕ) (o : Outcome) → IsLawful m moving o
    → IsLawful m moving (defines m session old o)
unfolding defines
definition m session old o holds = tested m _ _ (tested_last m _ _ holds)

-- ---- changes of rows

-- that of a session began by the last stamp, as all did
pub begun_in : (last : ℕ) (sessions : Sessions) (session : ℕ) → AreBegun last sessions
    → IsBegun last (transaction_in sessions session)
begun_in last [] session begun = tt
begun_in last (one ∷ others) zero begun = begun.0
begun_in last (one ∷ others) (suc session) begun = begun_in last others session begun.1

-- with another one in its place
begun_with : (last : ℕ) (sessions : Sessions) (session : ℕ) (found : Option Transaction) → AreBegun last sessions
    → IsBegun last found → AreBegun last (slice_set sessions session found)
begun_with last sessions session found begun is =
    all_with (IsBegun last) sessions (suc session) found begun is

pub start_before : (last : ℕ) (t : Option Transaction) → IsBegun last t → start_at last t ≤ last - 1
start_before last None begun = omega arith
start_before last (Some t) begun = omega (arith, begun)

-- a change that reads those streams, which are free for its session
abbrev pub IsFree : Machine → ℕ → List ℕ → Changed → Type 0
IsFree m session streams (Fails why) = Unit {0}
IsFree m session streams (Gives id read change e) =
    (read ≡ streams) × (first_locked m.sessions session read ≡ None)

none_locked : (naming reading : Option Refusal) (found : Option ℕ)
    → first_of (naming ∷ reading ∷ option_map Locked found ∷ []) ≡ None → found ≡ None
none_locked (Some why) reading found none = absurd cc
none_locked None (Some why) found none = absurd cc
none_locked None None (Some number) none = absurd cc
none_locked None None None none = refl

given_free : (m : Machine) (session id : ℕ) (streams : List ℕ) (change : Modification) (o : effects.EffectResult)
    → first_locked m.sessions session streams ≡ None → IsFree m session streams (given id streams change o)
given_free m session id streams change effects.Undefined free = tt
given_free m session id streams change (effects.Ambiguous row) free = tt
given_free m session id streams change (effects.Does e) free = (refl, free)

pub bound_free : (m : Machine) (session : ℕ) (b : BoundChange)
    → IsFree m session (streams_read m b) (bound_changed m session b)
bound_free m session b = by_refusal (change_refusal m session b) refl
  where
    by_table : (found : Option Table) → first_locked m.sessions session (streams_read m b) ≡ None
        → IsFree m session (streams_read m b) (given_on (streams_read m b) (instance_read m session b.sources) b found)
    by_table None free = tt
    by_table (Some t) free = given_free m session b.target (streams_read m b) b.change _ free

    by_refusal : (found : Option Refusal) → change_refusal m session b ≡ found
        → IsFree m session (streams_read m b) (fails_or found
        (given_on (streams_read m b) (instance_read m session b.sources) b
        (table_at (objects_seen m session) b.target)))
    by_refusal (Some why) is = tt
    by_refusal None is =
        by_table (table_at (objects_seen m session) b.target)
        (or_none (locked_by m.sessions session b.target) (first_locked m.sessions session (streams_read m b))
        (none_locked (naming_refusal b.findings b.is_wide)
        (reading_refusal m.state.objects m.state.last b.sources)
        (first_locked m.sessions session (b.target ∷ streams_read m b)) is)).1

not_true : (b : Bool) → (b ≡ true → ⊥) → b ≡ false
not_true true none = absurd (none refl)
not_true false none = refl

not_both : (b : Bool) → b ≡ true → b ≡ false → ⊥
not_both true is isnt = absurd cc
not_both false is isnt = absurd cc

-- a session without a transaction holds none that is free for it
free_alone : (m : Machine) (session : ℕ) (streams : List ℕ) → transaction_in m.sessions session ≡ None
    → first_locked m.sessions session streams ≡ None → MovesFree m m.sessions (with_streams streams [])
free_alone m session streams none free apart q id held still =
    not_true (list_any (nat_eq id) (with_streams streams [])) (λ among.
    by_part (one_of (list_any (nat_eq id) streams) false (sym (among_streams id streams []) ∙ among)))
  where
    mine : q ≡ session → ⊥
    mine same =
        not_both (reads m.sessions session id) (ap (λ (n : ℕ). reads m.sessions n id) (sym same) ∙ held)
        (ap (λ (found : Option Transaction). is_read_by found id) none)

    by_part : (list_any (nat_eq id) streams ≡ true) ⊎ (false ≡ true) → ⊥
    by_part (inl among) = mine (free_of m.sessions session q id streams free among held)
    by_part (inr is) = absurd cc

-- the streams that a transaction read
abbrev pub streams_of : Option Transaction → List ℕ
streams_of None = []
streams_of (Some t) = t.streams

-- those that a change moves by itself; in a transaction it moves none
abbrev pub moved_alone : List ℕ → Option Transaction → List ℕ
moved_alone streams None = with_streams streams []
moved_alone streams (Some t) = []

changed_holds : (m : Machine) (session : ℕ) (t : Option Transaction) → transaction_in m.sessions session ≡ t
    → (streams : List ℕ) (c : Changed) → IsFree m session streams c
    → IsLawful m (moved_alone streams t) (changes_in m session t c)
unfolding staged
changed_holds m session t is streams (Fails why) free = refuses m why
changed_holds m session None is streams (Gives id read change e) free =
    subst (λ (ids : List ℕ). IsLawful m (with_streams ids []) (changes_in m session None (Gives id read change e)))
    free.0
    (recorded_holds m (reply_to change e) m.sessions (staged_in_state m.state (begun m.state.last) id read e)
    refl (same_sessions m) (λ begun. omega arith) (free_alone m session read is free.1))
changed_holds m session (Some t) is streams (Gives id read change e) free =
    does m (reply_to change e) _ None refl (record {
      begun = λ begun. begun_with m.state.last m.sessions session _ begun
          (subst (IsBegun m.state.last) is (begun_in m.state.last m.sessions session begun));
      apart = apart_staged m.sessions session id (next_row_of (table_at m.state.objects id)) read t e is free.1;
      number = λ q stream before behind. number_put m.sessions session q stream _
          (λ reads. sym (ap (λ (found : Option Transaction). option_map (λ t. t.number) found) is)) behind;
    }) tt

-- ---- queries

listed_rows : (m : Machine) {moving : List ℕ} (b : BoundSelect) (found : Option Bag)
    → IsLawful m moving (listing_of m b found)
listed_rows m b None = refuses m NumberOutOfRange
listed_rows m b (Some rows) = answered m (Listing b.names (listed b.keys rows)) refl

asked_holds : (m : Machine) {moving : List ℕ} (session id : ℕ) (found : Option Stream)
    → IsLawful m moving (asked m session id found)
asked_holds m session id None = answered m (HasData false) refl
asked_holds m session id (Some s) =
    tested m (reading_refusal m.state.objects m.state.last (id ∷ [])) _
    (answered m (HasData (has_rows (rows_shown m.state.objects s (start_in m session)))) refl)

-- ---- transactions

begun_holds : (m : Machine) {moving : List ℕ} (session : ℕ)
    → IsLawful m moving (Does (Begun m.state.last) (with_begun m.sessions session m.state.last) None)
begun_holds m session = does m (Begun m.state.last) _ None refl (record {
  begun = λ begun. begun_with m.state.last m.sessions session _ begun (omega arith);
  apart = apart_put m.sessions session _ (λ id. refl);
  number = λ q id before behind. number_put m.sessions session q id _ (λ is. absurd cc) behind;
}) tt

-- a session's transaction ends
ended : (m : Machine) (session : ℕ) → KeepsSessions m (with_ended m.sessions session)
ended m session = record {
  begun = λ begun. begun_with m.state.last m.sessions session None begun tt;
  apart = apart_put m.sessions session None (λ id. refl);
  number = λ q id before behind. number_put m.sessions session q id None (λ is. absurd cc) behind;
}

-- what another session holds behind the end of a transaction isn't among what that held
free_ended : (m : Machine) (session : ℕ) (t : Transaction) → transaction_in m.sessions session ≡ Some t
    → MovesFree m (with_ended m.sessions session) t.streams
free_ended m session t is apart q id held still =
    not_true (list_any (nat_eq id) t.streams) (λ among.
    mine (apart q session id held (ap (λ (found : Option Transaction). is_read_by found id) is ∙ among)))
  where
    mine : q ≡ session → ⊥
    mine same =
        not_both (reads (with_ended m.sessions session) session id)
        (ap (λ (n : ℕ). reads (with_ended m.sessions session) n id) (sym same) ∙ still)
        (ended_reads m.sessions session id)

no_commit_refusal : (stamp : ℕ) (acts : Option (List Act)) → is_refusal (commit_reply stamp acts) ≡ false
no_commit_refusal stamp None = refl
no_commit_refusal stamp (Some acts) = refl

commit_holds : (m : Machine) (session : ℕ) (t : Option Transaction)
    → transaction_in m.sessions session ≡ t → IsLawful m (streams_of t) (commit_of m session t)
commit_holds m session None is = refuses m NoTransaction
commit_holds m session (Some t) is =
    recorded_holds m (commit_reply m.state.last (acts_of m.state.objects t)) (with_ended m.sessions session) t
    (no_commit_refusal m.state.last (acts_of m.state.objects t)) (ended m session)
    (λ begun. start_before m.state.last (Some t)
    (subst (IsBegun m.state.last) is (begun_in m.state.last m.sessions session begun)))
    (free_ended m session t is)

rollback_holds : (m : Machine) {moving : List ℕ} (session : ℕ) (t : Option Transaction)
    → IsLawful m moving (rollback_of m session t)
rollback_holds m session None = refuses m NoTransaction
rollback_holds m session (Some t) = does m RolledBack _ None refl (ended m session) tt

-- ---- all of them

-- the streams that a statement moves
abbrev pub moved_by : Machine → ℕ → Bound → List ℕ
moved_by m session ddl.Commit = streams_of (transaction_in m.sessions session)
moved_by m session (ddl.Change b) = moved_alone (streams_read m b) (transaction_in m.sessions session)
moved_by m session _ = []

pub statement : (m : Machine) (session : ℕ) (wrong : Option Refusal) (b : Bound)
    → IsLawful m (moved_by m session b) (carried_out m session wrong b)
unfolding carried_out begin commit rollback changes_rows selects has_data create_table drop_table create_stream
    drop_stream create_task resume_task suspend_task execute_task drop_task create_dynamic resume_dynamic
    suspend_dynamic refresh_dynamic set_lag drop_dynamic
statement m session wrong ddl.Begin = tested m _ _ (begun_holds m session)
statement m session wrong ddl.Commit = commit_holds m session (transaction_in m.sessions session) refl
statement m session wrong ddl.Rollback = rollback_holds m session (transaction_in m.sessions session)
statement m session wrong (ddl.Change b) =
    changed_holds m session (transaction_in m.sessions session) refl (streams_read m b) (bound_changed m session b)
    (bound_free m session b)
statement m session wrong (ddl.Select b) =
    tested m _ _ (listed_rows m b (eval b.query (instance_read m session b.sources)))
statement m session wrong (ddl.HasData id) =
    tested m wrong _ (asked_holds m session id (stream_at m.state.objects id))
statement m session wrong (ddl.CreateTable n) = definition m session _ _ (tested m _ _ (created m n))
statement m session wrong (ddl.DropTable id) =
    definition m session _ _ (tested m wrong _ (dropped m (DroppedTable (name_at m.state.objects id)) id refl))
statement m session wrong (ddl.CreateStream n) = definition m session _ _ (tested m _ _
    (defined m (CreatedStream n.name) (MakesStream n.name n.table n.is_append_only ∷ []) refl (tt, tt)))
statement m session wrong (ddl.DropStream id) =
    definition m session _ _ (tested m wrong _ (dropped m (DroppedStream (name_at m.state.objects id)) id refl))
statement m session wrong (ddl.CreateTask n) = definition m session _ _ (tested m _ _
    (defined m (CreatedTask n.name) (MakesTask n.name (unwrap_or n.minutes 0) n.after (body_of n) ∷ []) refl (tt, tt)))
statement m session wrong (ddl.ResumeTask id) = definition m session _ _ (tested m _ _
    (task_defined m (Resumed (name_at m.state.objects id)) _ refl
    (put_is id (resumed_state m.state.last id) (task_at m.state.objects id))))
statement m session wrong (ddl.SuspendTask id) = definition m session _ _ (tested m _ _
    (task_defined m (Suspended (name_at m.state.objects id)) _ refl
    (put_is id suspended_state (task_at m.state.objects id))))
statement m session wrong (ddl.ExecuteTask id) = definition m session _ _ (tested m _ _
    (task_defined m (Started (name_at m.state.objects id)) (start_acts m.state.objects id) refl (tt, tt)))
statement m session wrong (ddl.DropTask id) =
    definition m session _ _ (tested m _ _ (dropped m (DroppedTask (name_at m.state.objects id)) id refl))
statement m session wrong (ddl.CreateDynamicTable n) = definition m session _ _ (tested m _ _
    (created_dynamic m n (query_of n) n.initialize))
statement m session wrong (ddl.ResumeDynamicTable id) = definition m session _ _ (tested m wrong _
    (altered_dynamic m (Resumed (name_at m.state.objects id)) id _ refl))
statement m session wrong (ddl.SuspendDynamicTable id) = definition m session _ _ (tested m wrong _
    (altered_dynamic m (Suspended (name_at m.state.objects id)) id _ refl))
statement m session wrong (ddl.RefreshDynamicTable id) = definition m session _ _ (tested m wrong _
    (refreshed_dynamic m (asked_refresh m.state id) (refresh_acts m.state _ id m.state.last)))
statement m session wrong (ddl.SetTargetLag id lag) = definition m session _ _ (tested m _ _
    (altered_dynamic m (Altered (name_at m.state.objects id)) id _ refl))
statement m session wrong (ddl.DropDynamicTable id) =
    definition m session _ _ (tested m wrong _ (dropped m (DroppedDynamicTable (name_at m.state.objects id)) id refl))
