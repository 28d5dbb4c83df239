-- A stream that a transaction holds stays as it was read.
--     apart_opened, apart_step     no two sessions hold one stream: as a file is opened, and behind an event
--     held_step, held_after        an event, and a run of them, leave a stream as it is that a session holds
--     read_again                   what its transaction reads of it stays, too
--     shown_stays                  what a standard stream shows up to a stamp that has passed stays
use Rattle.std.proofs.Common.{◌≡◌, ℕ, zero, suc, Bool, true, false, cond, List, [], ◌∷◌, map, Option, Some, None}
use Rattle.std.proofs.Common.{option_map, refl, sym, ap, ◌∙◌, ◌-◌, arith}
use Rattle.std.specs.Prelude.{replicate, nat_le}
use Rattle.wh_meaning.specs.Bag.{bag_of}
use Rattle.wh_state.specs.State.{State, Object, Table, Stream}
use Rattle.wh_state.specs.Objects.{table_at, stream_at}
use Rattle.wh_net.specs.Net.{RowChange, net}
use Rattle.wh_net.specs.Stream.{rows_at, records_between, shown, shown_row, rows_on, rows_shown}
use Rattle.wh_machine.specs.Transaction.{Transaction, start_at}
use Rattle.wh_machine.specs.Reading.{start_in, rows_read}
use Rattle.wh_machine.specs.Sessions.{no_sessions, transaction_in, number_in}
use Rattle.wh_machine.specs.Outcome.{Machine, Outcome, Refuses, Does, opened, settled}
use Rattle.wh_machine.specs.Sound.{SoundMachine}
use Rattle.wh_machine.specs.Consuming.{base_at, is_read_by, reads, AreApart, IsHeldAlong}
use Rattle.wh_machine.specs.Step.{Event, decided, step, after}
use Rattle.wh_machine.proofs.Lawful.{IsLawful}
use Rattle.wh_machine.proofs.OutcomeLaws.{begun_in, start_before}
use Rattle.wh_machine.proofs.EventLaws.{lawful}
use Rattle.wh_machine.proofs.ConsumingLaws.{base_table, table_after, offset_passed}
use Rattle.wh_machine.proofs.ReadLaws.{read_by}
use Rattle.wh_machine.proofs.StepLaws.{ready, each_event}

none_reads : (count session id : ℕ) → reads (replicate count None) session id ≡ false
none_reads zero session id = refl
none_reads (suc count) zero id = refl
none_reads (suc count) (suc session) id = none_reads count session id

not_both : (b : Bool) → b ≡ true → b ≡ false → ⊥
not_both true is isnt = absurd cc
not_both false is isnt = absurd cc

pub apart_opened : (s : State) → AreApart (opened s).sessions
apart_opened s one other id first second =
    absurd (not_both (reads no_sessions one id) first (none_reads 65 one id))

pub apart_step : (m : Machine) (e : Event) → AreApart m.sessions → AreApart (step m e).0.sessions
apart_step m e apart =
    each_event m e (λ p acts. AreApart p.0.sessions) ((lawful (ready m e) e).sessions.apart apart) apart

-- where a session holds a stream behind an outcome, the stream is as it was
leaves_held : (session id : ℕ) (s : Stream) (m : Machine) {moving : List ℕ} (o : Outcome) → IsLawful m moving o
    → AreApart m.sessions
    → reads m.sessions session id ≡ true → reads (settled m o).0.sessions session id ≡ true
    → stream_at m.state.objects id ≡ Some s → stream_at (settled m o).0.state.objects id ≡ Some s
leaves_held session id s m (Refuses why) holds apart held still at = at
leaves_held session id s m (Does reply sessions None) holds apart held still at = at
leaves_held session id s m (Does reply sessions (Some acts)) holds apart held still at =
    holds.acts.stays id s at (holds.acts.free apart session id held still)

-- no event takes a stream from the session that holds it, nor moves its offset
pub held_step : (session id : ℕ) (s : Stream) (m : Machine) (e : Event) → AreApart m.sessions
    → reads m.sessions session id ≡ true → reads (step m e).0.sessions session id ≡ true
    → stream_at m.state.objects id ≡ Some s → stream_at (step m e).0.state.objects id ≡ Some s
held_step session id s m e apart held still at =
    each_event m e (λ p acts. reads p.0.sessions session id ≡ true → stream_at p.0.state.objects id ≡ Some s)
    (λ still. leaves_held session id s (ready m e) (decided m e) (lawful (ready m e) e) apart held still at)
    (λ still. at) still

-- and that holds it by the same transaction
pub number_step : (session id : ℕ) (m : Machine) (e : Event) → reads m.sessions session id ≡ true
    → reads (step m e).0.sessions session id ≡ true
    → number_in (step m e).0.sessions session ≡ number_in m.sessions session
number_step session id m e held still = each_event m e
    (λ p acts. reads p.0.sessions session id ≡ true → number_in p.0.sessions session ≡ number_in m.sessions session)
    ((lawful (ready m e) e).sessions.number session id held) (λ still. refl) still

first_held : (session id : ℕ) (m : Machine) (es : List Event) → IsHeldAlong session id m es
    → reads m.sessions session id ≡ true
first_held session id m [] held = held
first_held session id m (e ∷ es) held = held.0

-- as long as a session holds a stream it is as it was when it was read
pub held_after : (session id : ℕ) (s : Stream) (m : Machine) (es : List Event) → AreApart m.sessions
    → IsHeldAlong session id m es → stream_at m.state.objects id ≡ Some s
    → stream_at (after m es).state.objects id ≡ Some s
held_after session id s m [] apart held at = at
held_after session id s m (e ∷ es) apart held at =
    held_after session id s (step m e).0 es (apart_step m e apart) held.1
    (held_step session id s m e apart held.0 (first_held session id (step m e).0 es held.1) at)

-- of a table whose versions at both times are as they were
pub shown_stays : (old new : Table) (s : Stream) (start : ℕ) → s.is_append_only ≡ false
    → rows_at new s.offset ≡ rows_at old s.offset → rows_at new start ≡ rows_at old start
    → shown new s start ≡ shown old s start
unfolding shown
shown_stays old new s start standard first last =
    ap (λ (rs : List RowChange). cond (nat_le start s.offset) [] rs)
    (ap (λ (mode : Bool). records_between mode new s.offset start) standard
    ∙ ap (λ rows. net rows (rows_at new start)) first ∙ ap (net (rows_at old s.offset)) last
    ∙ sym (ap (λ (mode : Bool). records_between mode old s.offset start) standard))

number_after : (session id : ℕ) (m : Machine) (es : List Event) → IsHeldAlong session id m es
    → number_in (after m es).sessions session ≡ number_in m.sessions session
number_after session id m [] held = refl
number_after session id m (e ∷ es) held =
    number_after session id (step m e).0 es held.1
    ∙ number_step session id m e held.0 (first_held session id (step m e).0 es held.1)

-- of transactions of one number
same_start : (last other : ℕ) (old new : Option Transaction) (id : ℕ) → is_read_by old id ≡ true
    → option_map (λ t. t.number) new ≡ option_map (λ t. t.number) old → start_at other new ≡ start_at last old
same_start last other None new id is same = absurd cc
same_start last other (Some t) None id is same = absurd cc
same_start last other (Some t) (Some u) id is same = ap (λ (n : ℕ). n - 1) (some_number u.number t.number same)
  where
    some_number : (a b : ℕ) → Some a ≡ Some b → a ≡ b
    some_number a b same = cc

pub start_after : (session id : ℕ) (m : Machine) (es : List Event) → IsHeldAlong session id m es
    → start_in (after m es) session ≡ start_in m session
start_after session id m es held =
    same_start m.state.last (after m es).state.last (transaction_in m.sessions session)
    (transaction_in (after m es).sessions session) id (first_held session id m es held)
    (number_after session id m es held)

-- ---- reads

table_shown : (objects : List Object) (s : Stream) (to : ℕ) (t : Table) → table_at objects s.source ≡ Some t
    → rows_shown objects s to ≡ map (shown_row s.source) (shown t s to)
table_shown objects s to t at = ap (λ (found : Option Table). rows_on found s to) at

-- as long as a transaction holds a standard stream on a table, it reads the same of it, whatever others commit
pub read_again : (session id : ℕ) (m : Machine) (es : List Event) → SoundMachine m → AreApart m.sessions
    → IsHeldAlong session id m es → (s : Stream) (t : Table) → stream_at m.state.objects id ≡ Some s
    → s.is_append_only ≡ false → base_at m.state.objects s.source ≡ Some t
    → rows_read (after m es) session id ≡ rows_read m session id
read_again session id m es sound apart held s t at standard tabled =
    let start : ℕ = start_in m session in
    let now = table_after s.source m es sound t tabled in
    let offset = offset_passed m sound id s at in
    let before = start_before m.state.last (transaction_in m.sessions session)
    (begun_in m.state.last m.sessions session sound.begun) in
    let same : shown now.table s start ≡ shown t s start =
    shown_stays t now.table s start standard (now.kept s.offset (omega (arith, offset)))
    (now.kept start (omega (arith, before))) in
    read_by (after m es) session id s (held_after session id s m es apart held at)
    ∙ ap (λ (to : ℕ). bag_of (rows_shown (after m es).state.objects s to)) (start_after session id m es held)
    ∙ ap bag_of (table_shown (after m es).state.objects s start now.table
    (base_table (after m es).state.objects s.source now.table now.there)
    ∙ ap (map (shown_row s.source)) same ∙ sym (table_shown m.state.objects s start t
    (base_table m.state.objects s.source t tabled)))
    ∙ sym (read_by m session id s at)
