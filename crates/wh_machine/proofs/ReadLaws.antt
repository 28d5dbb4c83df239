-- What is consumed of a stream is what was read of it.
--     read_by                        what a statement reads of a stream: what it shows up to the session's start
--     change_moves, commit_moves     a commit that read it leaves it with what it showed up to the start consumed
--     to_the_greater                 read up to a start, its offset is the greater of both
--     commit_consumes                the COMMIT of a session moves it to the start
use Rattle.std.proofs.Common.{◌≡◌, ℕ, Bool, true, false, cond, List, [], ◌∷◌, map, Option, Some, None}
use Rattle.std.proofs.Common.{refl, sym, ap, ◌∙◌, arith}
use Rattle.std.specs.Prelude.{max, nat_eq, nat_lt, ◌||◌}
use Rattle.std.specs.List.{list_any}
use Rattle.std.proofs.lemmas.Bool.Decides.{nat_tests}
use Rattle.wh_meaning.specs.Bag.{bag_of}
use Rattle.wh_naming.specs.Changes.{Modification}
use Rattle.wh_effect.specs.Effect.{Effect}
use Rattle.wh_reply.specs.Reply.{Refusal, Reply, is_refusal}
use Rattle.wh_state.specs.State.{TaskKind, DynamicKind}
use Rattle.wh_state.specs.State.{Kind, TableKind, StreamKind, Object, Stream, at_id, with_offset}
use Rattle.wh_state.specs.Objects.{stream_at}
use Rattle.wh_machine.specs.Offsets.{offset_moves, acts_of_commit}
use Rattle.wh_machine.specs.Changes.{Gives, reply_to}
use Rattle.wh_net.specs.Stream.{rows_shown}
use Rattle.wh_machine.specs.Transaction.{Transaction, begun, start_of, start_at, staged, staged_in_state, edit_act}
use Rattle.wh_machine.specs.Transaction.{touched, acts_of, commit_refusal}
use Rattle.wh_machine.specs.Sessions.{Sessions, transaction_in, with_ended}
use Rattle.wh_machine.specs.Consuming.{is_read_by, reads}
use Rattle.wh_machine.specs.Outcome.{Machine, Outcome, Does, unless, settled}
use Rattle.wh_machine.specs.Reading.{start_in, rows_read}
use Rattle.wh_machine.specs.Statements.{recorded, commit_reply, commit_of, commit, changes_in}
use Rattle.wh_machine.proofs.MoveLaws.{read_to, left_of, acts_at, among_streams}

no_stream : (objects : List Object) (id : ℕ) (s : Stream) → stream_at objects id ≡ Some s → stream_at objects id ≡ None
    → ⊥
no_stream objects id s at none = absurd cc

pub read_by : (m : Machine) (session id : ℕ) (s : Stream) → stream_at m.state.objects id ≡ Some s
    → rows_read m session id ≡ bag_of (rows_shown m.state.objects s (start_in m session))
read_by m session id s at = by_found (at_id m.state.objects id) refl
  where
    by_kind : (o : Object) (k : Kind) → at_id m.state.objects id ≡ Some o → o.kind ≡ k
        → rows_read m session id ≡ bag_of (rows_shown m.state.objects s (start_in m session))
    by_kind o (TableKind t) there is = absurd (no_stream m.state.objects id s at (rw (there, is) refl))
    by_kind o (DynamicKind d t) there is = absurd (no_stream m.state.objects id s at (rw (there, is) refl))
    by_kind o (TaskKind t) there is = absurd (no_stream m.state.objects id s at (rw (there, is) refl))
    by_kind o (StreamKind r) there is =
        let here : stream_at m.state.objects id ≡ Some r = rw (there, is) refl in
        let same : r ≡ s = cc in
        rw (there, is) (ap (λ (q : Stream). bag_of (rows_shown m.state.objects q (start_in m session))) same)

    by_found : (found : Option Object) → at_id m.state.objects id ≡ found
        → rows_read m session id ≡ bag_of (rows_shown m.state.objects s (start_in m session))
    by_found None there = absurd (no_stream m.state.objects id s at (rw there refl))
    by_found (Some o) there = by_kind o o.kind there refl

-- among those that are read it is read up to the start
all_read : (start : ℕ) (s : Stream) (among : Bool) → among ≡ true
    → Some (left_of start s among s) ≡ Some (read_to start s)
all_read start s true is = refl
all_read start s false is = absurd cc

refused_isnt : {X : Type 0} → true ≡ false → X
refused_isnt is = absurd cc

-- what it does, as a transaction that read those streams
abbrev does_by : Machine → Reply → Sessions → Transaction → List ℕ → Outcome
does_by m reply sessions t streams = Does reply sessions (acts_of_commit streams
    (offset_moves m.state.objects (start_of t) t.streams) (map edit_act (touched t)))

-- a transaction that commits, and read it
recorded_moves : (m : Machine) (reply : Reply) (sessions : Sessions) (t : Transaction) (id : ℕ) (s : Stream)
    → stream_at m.state.objects id ≡ Some s → list_any (nat_eq id) t.streams ≡ true
    → is_refusal (settled m (recorded m reply sessions t)).1 ≡ false
    → stream_at (settled m (recorded m reply sessions t)).0.state.objects id ≡ Some (read_to (start_of t) s)
unfolding acts_of
recorded_moves m reply sessions t id s at among accepted = by_refusal (commit_refusal m.state.objects t) accepted
  where
    by_streams : (streams : List ℕ) → list_any (nat_eq id) streams ≡ true
        → stream_at (settled m (does_by m reply sessions t streams)).0.state.objects id ≡ Some (read_to (start_of t) s)
    by_streams [] is = absurd cc
    by_streams (other ∷ streams) is =
        acts_at m.state.objects m.state.last (start_of t) id s at (touched t) t.streams m.state.objects at
        ∙ all_read (start_of t) s (list_any (nat_eq id) t.streams) among

    by_refusal : (why : Option Refusal)
        → is_refusal (settled m (unless why (does_by m reply sessions t t.streams))).1 ≡ false
        → stream_at (settled m (unless why (does_by m reply sessions t t.streams))).0.state.objects id
        ≡ Some (read_to (start_of t) s)
    by_refusal (Some why) accepted = refused_isnt accepted
    by_refusal None accepted = by_streams t.streams among

-- a change outside of a transaction
pub change_moves : (m : Machine) (session target : ℕ) (streams : List ℕ) (change : Modification) (e : Effect) (id : ℕ)
    (s : Stream) → transaction_in m.sessions session ≡ None
    → stream_at m.state.objects id ≡ Some s → list_any (nat_eq id) streams ≡ true
    → is_refusal (settled m (changes_in m session None (Gives target streams change e))).1 ≡ false
    → stream_at (settled m (changes_in m session None (Gives target streams change e))).0.state.objects id
    ≡ Some (read_to (start_in m session) s)
unfolding staged
change_moves m session target streams change e id s alone at among accepted =
    recorded_moves m (reply_to change e) m.sessions (staged_in_state m.state (begun m.state.last) target streams e) id s
    at (among_streams id streams [] ∙ ap (λ (b : Bool). b || false) among) accepted
    ∙ ap (λ (found : Option Transaction). Some (read_to (start_at m.state.last found) s)) (sym alone)

-- the COMMIT of a transaction
pub commit_moves : (m : Machine) (session : ℕ) (t : Transaction) (id : ℕ) (s : Stream)
    → stream_at m.state.objects id ≡ Some s → list_any (nat_eq id) t.streams ≡ true
    → is_refusal (settled m (commit_of m session (Some t))).1 ≡ false
    → stream_at (settled m (commit_of m session (Some t))).0.state.objects id ≡ Some (read_to (start_of t) s)
commit_moves m session t =
    recorded_moves m (commit_reply m.state.last (acts_of m.state.objects t)) (with_ended m.sessions session) t

-- that is the greater of its offset and the start
pub to_the_greater : (start : ℕ) (s : Stream) → read_to start s ≡ with_offset (max s.offset start) s
to_the_greater start s = by_test (nat_lt s.offset start) refl
  where
    by_test : (later : Bool) → nat_lt s.offset start ≡ later
        → cond later (with_offset start s) s ≡ with_offset (max s.offset start) s
    by_test true later =
        let up : max s.offset start ≡ start = grind (arith, nat_tests) in
        ap (λ (n : ℕ). with_offset n s) (sym up)
    by_test false later =
        let stays : max s.offset start ≡ s.offset = grind (arith, nat_tests) in
        ap (λ (n : ℕ). with_offset n s) (sym stays)

-- the COMMIT of a session whose transaction read a stream
pub commit_consumes : (m : Machine) (session id : ℕ) (t : Transaction) (s : Stream)
    → transaction_in m.sessions session ≡ Some t → stream_at m.state.objects id ≡ Some s
    → reads m.sessions session id ≡ true → is_refusal (settled m (commit m session)).1 ≡ false
    → stream_at (settled m (commit m session)).0.state.objects id ≡ Some (with_offset (max s.offset (start_of t)) s)
unfolding commit
commit_consumes m session id t s open_there at among accepted =
    let ended = ap (commit_of m session) open_there in
    let reading : list_any (nat_eq id) t.streams ≡ true =
    sym (ap (λ (found : Option Transaction). is_read_by found id) open_there) ∙ among in
    ap (λ o. stream_at (settled m o).0.state.objects id) ended
    ∙ commit_moves m session t id s at reading
    (sym (ap (λ o. is_refusal (settled m o).1) ended) ∙ accepted)
    ∙ ap Some (to_the_greater (start_of t) s)
