-- A batch is what was read: what an event consumes of a stream, as rows, is what statements read of it.
--     commit_batch      a COMMIT consumes what its transaction reads of a standard stream, wherever it held it
--     change_holds      a change inside of a transaction holds the streams that it reads, and they are read again
--     changed_read      whether the streams that a change comes to are those of its statement
--     change_consumes   a change outside of a transaction moves a stream that it reads to its start
--     change_batch      and consumes what it reads itself
--     consumed_rows     what an event consumes that moves a stream up to a stamp
use Rattle.std.proofs.Common.{◌≡◌, ℕ, zero, suc, Bool, true, false, List, [], ◌∷◌, map, Option, Some, None}
use Rattle.std.proofs.Common.{refl, sym, ap, subst, ◌∙◌}
use Rattle.std.specs.Prelude.{max, nat_eq, ◌||◌, slice_set}
use Rattle.std.specs.List.{list_any}
use Rattle.wh_ast.specs.declared.dml.Dml.{Dml}
use Rattle.wh_ast.specs.declared.statement.Statement as tree
use Rattle.wh_ast.specs.declared.statement.Statement.TheVariants as st
use Rattle.wh_grammar.specs.Spelled.{Asked}
use Rattle.wh_meaning.specs.Bag.{bag_of}
use Rattle.wh_naming.specs.Changes.{BoundChange}
use Rattle.wh_ddl_naming.specs.Statements as ddl
use Rattle.wh_effect.specs.Effect as effects
use Rattle.wh_effect.specs.Effect.{Effect}
use Rattle.wh_reply.specs.Reply.{Refusal, Reply, is_refusal}
use Rattle.wh_state.specs.State.{Table, Stream, with_offset}
use Rattle.wh_state.specs.Objects.{table_at, stream_at}
use Rattle.wh_machine.specs.Changes.{Changed, Fails, Gives, given, given_on, fails_or}
use Rattle.wh_net.specs.Stream.{shown_row, rows_on, rows_shown}
use Rattle.wh_machine.specs.Transaction.{Transaction, start_of, start_at, staged, next_row_of}
use Rattle.wh_machine.specs.Sessions.{Sessions, transaction_in}
use Rattle.wh_machine.specs.Outcome.{Machine, settled}
use Rattle.wh_machine.specs.Sound.{SoundMachine}
use Rattle.wh_machine.specs.Reading.{objects_seen, start_in, rows_read, instance_read}
use Rattle.wh_machine.specs.Statements.{streams_read, change_refusal, bound_changed, changes_in, changes_rows}
use Rattle.wh_machine.specs.Statements.{commit, commit_of, carried_out, carried_out_as, meant_in}
use Rattle.wh_machine.specs.Consuming.{base_at, shown_of, shown_to, consumed, is_read_by, reads, AreApart, IsHeldAlong}
use Rattle.wh_machine.specs.Consuming.{committing, changing, change_in, change_reads}
use Rattle.wh_machine.specs.Step.{Event, Command, is_session, stamp_of, at_stamp, commanded}
use Rattle.wh_machine.specs.Step.{decided, step, after}
use Rattle.wh_machine.proofs.MoveLaws.{read_to, among_streams, shown_again}
use Rattle.wh_machine.proofs.StepLaws.{ready, each_event}
use Rattle.wh_machine.proofs.ReadLaws.{read_by, change_moves, commit_moves, to_the_greater}
use Rattle.wh_machine.proofs.HeldLaws.{held_after, read_again}

refused_isnt : {X : Type 0} → true ≡ false → X
refused_isnt is = absurd cc

-- ---- accepted commands

-- is carried out at its stamp
accepted_step : (m : Machine) (reading session : ℕ) (written : tree.Statement)
    → is_refusal (step m (Command reading session (Asked written))).1 ≡ false
    → step m (Command reading session (Asked written))
    ≡ settled (ready m (Command reading session (Asked written)))
    (carried_out_as (ready m (Command reading session (Asked written))) session
    (meant_in (ready m (Command reading session (Asked written))) written))
unfolding commanded
accepted_step m reading session written accepted =
    each_event m e
    (λ p acts. is_refusal p.1 ≡ false
    → p ≡ settled (ready m e) (carried_out_as (ready m e) session (meant_in (ready m e) written)))
    (by_session (is_session session) refl) (λ accepted. absurd cc) accepted
  where
    e : Event
    e = Command reading session (Asked written)

    by_session : (is : Bool) → is_session session ≡ is
        → is_refusal (settled (ready m e) (decided m e)).1 ≡ false
        → settled (ready m e) (decided m e)
        ≡ settled (ready m e) (carried_out_as (ready m e) session (meant_in (ready m e) written))
    by_session true is accepted = rw is refl
    by_session false is accepted = absurd cc

-- ---- what is consumed, as rows

-- where the offset moves to a stamp, or stays behind it, it is what the stream shows up to the stamp
shown_rows : (s : Stream) (start : ℕ) (found : Option Table)
    → map (shown_row s.source) (shown_of found s (read_to start s).offset) ≡ rows_on found s start
shown_rows s start None = refl
shown_rows s start (Some t) = ap (map (shown_row s.source)) (shown_again t s start)

pub consumed_rows : (m : Machine) (e : Event) (id start : ℕ) (s : Stream) → stream_at m.state.objects id ≡ Some s
    → stream_at (step m e).0.state.objects id ≡ Some (read_to start s)
    → map (shown_row s.source) (consumed id m e) ≡ rows_shown m.state.objects s start
consumed_rows m e id start s at moved =
    ap (map (shown_row s.source))
    (ap (λ (found : Option Stream). shown_to m.state.objects found (stream_at (step m e).0.state.objects id)) at
    ∙ ap (shown_to m.state.objects (Some s)) moved)
    ∙ shown_rows s start (table_at m.state.objects s.source)

-- ---- COMMIT

-- at the event, whatever the sessions did before
commit_now : (reading session id : ℕ) (m : Machine) (s : Stream) → stream_at m.state.objects id ≡ Some s
    → reads m.sessions session id ≡ true → is_refusal (step m (committing reading session)).1 ≡ false
    → bag_of (map (shown_row s.source) (consumed id m (committing reading session))) ≡ rows_read m session id
unfolding carried_out commit ddl.bound
commit_now reading session id m s at held accepted = by_found (transaction_in m.sessions session) refl
  where
    e : Event
    e = committing reading session

    stepped : step m e ≡ settled (ready m e) (commit_of (ready m e) session (transaction_in m.sessions session))
    stepped = accepted_step m reading session st.Commit accepted

    by_found : (found : Option Transaction) → transaction_in m.sessions session ≡ found
        → bag_of (map (shown_row s.source) (consumed id m e)) ≡ rows_read m session id
    by_found None open_there =
        refused_isnt (sym held ∙ ap (λ (found : Option Transaction). is_read_by found id) open_there)
    by_found (Some t) open_there =
        let ends : step m e ≡ settled (ready m e) (commit_of (ready m e) session (Some t)) =
        stepped ∙ ap (λ found. settled (ready m e) (commit_of (ready m e) session found)) open_there in
        let among : list_any (nat_eq id) t.streams ≡ true =
        sym (ap (λ (found : Option Transaction). is_read_by found id) open_there) ∙ held in
        let moved : stream_at (step m e).0.state.objects id ≡ Some (read_to (start_of t) s) =
        ap (λ (p : Machine × Reply). stream_at p.0.state.objects id) ends
        ∙ commit_moves (ready m e) session t id s at among
        (sym (ap (λ (p : Machine × Reply). is_refusal p.1) ends) ∙ accepted) in
        ap bag_of (consumed_rows m e id (start_of t) s at moved)
        ∙ ap (λ found. bag_of (rows_shown m.state.objects s (start_at m.state.last found))) (sym open_there)
        ∙ sym (read_by m session id s at)

still_held : (session id : ℕ) (m : Machine) (es : List Event) → IsHeldAlong session id m es
    → reads (after m es).sessions session id ≡ true
still_held session id m [] held = held
still_held session id m (e ∷ es) held = still_held session id (step m e).0 es held.1

-- a transaction's statements read it up to its start, whatever their stamps
read_stamped : (session id stamp : ℕ) (m : Machine) (s : Stream) → stream_at m.state.objects id ≡ Some s
    → reads m.sessions session id ≡ true → rows_read (at_stamp m stamp) session id ≡ rows_read m session id
read_stamped session id stamp m s at held =
    read_by (at_stamp m stamp) session id s at
    ∙ ap (λ (to : ℕ). bag_of (rows_shown m.state.objects s to)) (by_found (transaction_in m.sessions session) held)
    ∙ sym (read_by m session id s at)
  where
    by_found : (found : Option Transaction) → is_read_by found id ≡ true
        → start_at stamp found ≡ start_at m.state.last found
    by_found None held = absurd cc
    by_found (Some t) held = refl

first_held : (session id : ℕ) (m : Machine) (es : List Event) → IsHeldAlong session id m es
    → reads m.sessions session id ≡ true
first_held session id m [] held = held
first_held session id m (e ∷ es) held = held.0

-- the COMMIT of a transaction that held a standard stream along a run
pub commit_batch : (reading session id stamp : ℕ) (m : Machine) (es : List Event) → SoundMachine m → AreApart m.sessions
    → IsHeldAlong session id m es → (s : Stream) (t : Table) → stream_at m.state.objects id ≡ Some s
    → s.is_append_only ≡ false → base_at m.state.objects s.source ≡ Some t
    → is_refusal (step (after m es) (committing reading session)).1 ≡ false
    → bag_of (map (shown_row s.source) (consumed id (after m es) (committing reading session)))
    ≡ rows_read (at_stamp m stamp) session id
commit_batch reading session id stamp m es sound apart held s t at standard tabled accepted =
    commit_now reading session id (after m es) s (held_after session id s m es apart held at)
    (still_held session id m es held) accepted
    ∙ read_again session id m es sound apart held s t at standard tabled
    ∙ sym (read_stamped session id stamp m s at (first_held session id m es held))

-- ---- changes of rows

-- whether the stream of an id is among those that a change reads
abbrev pub IsReadIn : Bool → ℕ → Changed → Type 0
IsReadIn is id (Fails why) = Unit {0}
IsReadIn is id (Gives target streams change e) = list_any (nat_eq id) streams ≡ is

bound_read : (is : Bool) (m : Machine) (session id : ℕ) (b : BoundChange)
    → list_any (nat_eq id) (streams_read m b) ≡ is → IsReadIn is id (bound_changed m session b)
bound_read is m session id b among = by_refusal (change_refusal m session b)
  where
    by_effect : (o : effects.EffectResult) → IsReadIn is id (given b.target (streams_read m b) b.change o)
    by_effect effects.Undefined = tt
    by_effect (effects.Ambiguous row) = tt
    by_effect (effects.Does e) = among

    by_table : (found : Option Table)
        → IsReadIn is id (given_on (streams_read m b) (instance_read m session b.sources) b found)
    by_table None = tt
    by_table (Some t) = by_effect _

    by_refusal : (found : Option Refusal) → IsReadIn is id (fails_or found
        (given_on (streams_read m b) (instance_read m session b.sources) b
        (table_at (objects_seen m session) b.target)))
    by_refusal (Some why) = tt
    by_refusal None = by_table (table_at (objects_seen m session) b.target)

pub changed_read : (is : Bool) (m : Machine) (session id : ℕ) (statement : Dml) → change_reads m statement id ≡ is
    → IsReadIn is id (bound_changed m session (change_in m statement))
changed_read is m session id statement among = bound_read is m session id (change_in m statement) among

-- outside of a transaction
alone_moves : (m : Machine) (session id : ℕ) (s : Stream) (c : Changed) → transaction_in m.sessions session ≡ None
    → IsReadIn true id c → stream_at m.state.objects id ≡ Some s
    → is_refusal (settled m (changes_in m session None c)).1 ≡ false
    → stream_at (settled m (changes_in m session None c)).0.state.objects id ≡ Some (read_to (start_in m session) s)
alone_moves m session id s (Fails why) none among at accepted = refused_isnt accepted
alone_moves m session id s (Gives target streams change e) none among at accepted =
    change_moves m session target streams change e id s none at among accepted

-- a change that reads a stream outside of a transaction
alone_moved : (reading session id : ℕ) (statement : Dml) (m : Machine) (s : Stream)
    → transaction_in m.sessions session ≡ None → stream_at m.state.objects id ≡ Some s
    → change_reads m statement id ≡ true
    → is_refusal (step m (changing reading session statement)).1 ≡ false
    → stream_at (step m (changing reading session statement)).0.state.objects id
    ≡ Some (read_to (start_in (ready m (changing reading session statement)) session) s)
unfolding carried_out changes_rows ddl.bound
alone_moved reading session id statement m s none at among accepted =
    let e : Event = changing reading session statement in
    let now : Machine = ready m e in
    let changed : Changed = bound_changed now session (change_in now statement) in
    let ends : step m e ≡ settled now (changes_in now session None changed) =
    accepted_step m reading session (st.Dml statement) accepted
    ∙ ap (λ (found : Option Transaction). settled now (changes_in now session found changed)) none in
    ap (λ (p : Machine × Reply). stream_at p.0.state.objects id) ends
    ∙ alone_moves now session id s changed none (changed_read true now session id statement among) at
    (sym (ap (λ (p : Machine × Reply). is_refusal p.1) ends) ∙ accepted)

-- to the start, where the stream isn't behind it already
pub change_consumes : (reading session id : ℕ) (statement : Dml) (m : Machine) (s : Stream)
    → transaction_in m.sessions session ≡ None → stream_at m.state.objects id ≡ Some s
    → change_reads m statement id ≡ true
    → is_refusal (step m (changing reading session statement)).1 ≡ false
    → stream_at (step m (changing reading session statement)).0.state.objects id
    ≡ Some (with_offset (max s.offset (start_at (stamp_of m.state reading) None)) s)
change_consumes reading session id statement m s none at among accepted =
    alone_moved reading session id statement m s none at among accepted
    ∙ ap (λ (found : Option Transaction). Some (read_to (start_at (stamp_of m.state reading) found) s)) none
    ∙ ap Some (to_the_greater (start_at (stamp_of m.state reading) None) s)

pub change_batch : (reading session id : ℕ) (statement : Dml) (m : Machine) (s : Stream)
    → transaction_in m.sessions session ≡ None → stream_at m.state.objects id ≡ Some s
    → change_reads m statement id ≡ true
    → is_refusal (step m (changing reading session statement)).1 ≡ false
    → bag_of (map (shown_row s.source) (consumed id m (changing reading session statement)))
    ≡ rows_read (ready m (changing reading session statement)) session id
change_batch reading session id statement m s none at among accepted =
    let e : Event = changing reading session statement in
    let now : Machine = ready m e in
    ap bag_of (consumed_rows m e id (start_in now session) s at
    (alone_moved reading session id statement m s none at among accepted))
    ∙ sym (read_by now session id s at)

-- inside of one it is staged
staged_there : (sessions : Sessions) (session : ℕ) (t u : Transaction) → transaction_in sessions session ≡ Some t
    → transaction_in (slice_set sessions session (Some u)) session ≡ Some u
staged_there [] session t u there = absurd cc
staged_there (one ∷ others) zero t u there = refl
staged_there (one ∷ others) (suc session) t u there = staged_there others session t u there

either_true : (a b : Bool) → a ≡ true → (a || b) ≡ true
either_true true b is = refl
either_true false b is = absurd cc

-- that a session holds the stream of an id, and reads of it what it read before
abbrev HoldsWhatWasRead : ℕ → ℕ → Machine → Machine → Type 0
HoldsWhatWasRead session id before behind =
    (reads behind.sessions session id ≡ true) × (rows_read behind session id ≡ rows_read before session id)

within_holds : (m : Machine) (session id : ℕ) (t : Transaction) (s : Stream) (c : Changed) → IsReadIn true id c
    → transaction_in m.sessions session ≡ Some t → stream_at m.state.objects id ≡ Some s
    → is_refusal (settled m (changes_in m session (Some t) c)).1 ≡ false
    → HoldsWhatWasRead session id m (settled m (changes_in m session (Some t) c)).0
unfolding staged
within_holds m session id t s (Fails why) among open_there at accepted = refused_isnt accepted
within_holds m session id t s (Gives target streams change e) among open_there at accepted =
    let u : Transaction = staged t target streams (next_row_of (table_at m.state.objects target)) e in
    let behind : Machine = (settled m (changes_in m session (Some t) (Gives target streams change e))).0 in
    let there : transaction_in behind.sessions session ≡ Some u =
    staged_there m.sessions session t u open_there in (
      ap (λ (found : Option Transaction). is_read_by found id) there ∙ among_streams id streams t.streams
          ∙ either_true (list_any (nat_eq id) streams) (list_any (nat_eq id) t.streams) among,
      read_by behind session id s at
          ∙ ap (λ found. bag_of (rows_shown m.state.objects s (start_at m.state.last found))) there
          ∙ ap (λ found. bag_of (rows_shown m.state.objects s (start_at m.state.last found))) (sym open_there)
          ∙ sym (read_by m session id s at),
    )

-- a change that reads a stream inside of a transaction
pub change_holds : (reading session id : ℕ) (statement : Dml) (m : Machine) (t : Transaction) (s : Stream)
    → transaction_in m.sessions session ≡ Some t → stream_at m.state.objects id ≡ Some s
    → change_reads m statement id ≡ true
    → is_refusal (step m (changing reading session statement)).1 ≡ false
    → HoldsWhatWasRead session id (ready m (changing reading session statement))
    (step m (changing reading session statement)).0
unfolding carried_out changes_rows ddl.bound
change_holds reading session id statement m t s open_there at among accepted =
    let e : Event = changing reading session statement in
    let now : Machine = ready m e in
    let ends : step m e
    ≡ settled now (changes_in now session (Some t) (bound_changed now session (change_in now statement))) =
    accepted_step m reading session (st.Dml statement) accepted
    ∙ ap (λ (found : Option Transaction).
    settled now (changes_in now session found (bound_changed now session (change_in now statement))))
    open_there in
    subst (λ (p : Machine × Reply). HoldsWhatWasRead session id now p.0) (sym ends)
    (within_holds now session id t s (bound_changed now session (change_in now statement))
    (changed_read true now session id statement among) open_there at
    (sym (ap (λ (p : Machine × Reply). is_refusal p.1) ends) ∙ accepted))
