-- Of what a stream shows nothing is lost and nothing comes twice.
--     later_step                  an event leaves versions as they were, and moves offsets on
--     table_after, versions_stay  a run leaves versions at times that have passed as they were
--     shown_leads                 what a stream shows leads from its offset's version to that at a stamp
--     batches_lead                batches that were consumed lead from the first offset's version to the last one's
use Rattle.std.proofs.Common.{◌≡◌, ℕ, zero, suc, ◌<◌, ◌≤◌, max, Bool, true, false, cond, List, [], ◌∷◌}
use Rattle.std.proofs.Common.{Option, Some, None, refl, sym, ap, subst, ◌∙◌, arith}
use Rattle.std.specs.Prelude.{nat_le, slice_get}
use Rattle.std.proofs.lemmas.Bool.Decides.{nat_tests}
use Rattle.wh_state.specs.State.{TaskKind, DynamicKind}
use Rattle.wh_state.specs.State.{Rows, Table, Stream, Kind, TableKind, StreamKind, Object}
use Rattle.wh_state.specs.State.{at_id}
use Rattle.wh_state.specs.Objects.{table_at, stream_at}
use Rattle.wh_state.specs.Sound.{IsSoundKind, IsSoundObject}
use Rattle.wh_state.proofs.AllLaws.{all_at}
use Rattle.wh_net.specs.Net.{patch}
use Rattle.wh_net.specs.Stream.{rows_at, records_between, shown}
use Rattle.wh_net.proofs.NetLaws.{patched}
use Rattle.wh_machine.specs.Outcome.{Machine, Outcome, Refuses, Does, settled}
use Rattle.wh_machine.specs.Sound.{SoundMachine}
use Rattle.wh_machine.specs.Consuming.{base_at, Extends, IsLaterStream, IsLaterKind, IsLater, AreLater}
use Rattle.wh_machine.specs.Consuming.{rows_then, shown_of}
use Rattle.wh_machine.specs.Consuming.{shown_to, consumed, batches, all_patched, rows_consumed}
use Rattle.wh_machine.specs.Step.{Event, reading_of, stamp_of, decided, step, after}
use Rattle.wh_machine.proofs.Lawful.{IsLawful}
use Rattle.wh_machine.proofs.LaterLaws.{same_extends, some_same, same_later, stream_found, acts_later}
use Rattle.wh_machine.proofs.EventLaws.{lawful}
use Rattle.wh_machine.proofs.StepLaws.{ready, each_event, last_grows}
use Rattle.wh_machine.proofs.SoundLaws.{sound_ready, sound_step}

-- ---- events

same_objects : (stamp : ℕ) (objects : List Object) → AreLater stamp objects objects
same_objects stamp objects = same_extends (IsLater stamp) (same_later stamp) objects

settles_later : (m : Machine) {moving : List ℕ} (o : Outcome) → SoundMachine m → IsLawful m moving o
    → AreLater m.state.last m.state.objects (settled m o).0.state.objects
settles_later m (Refuses why) sound holds = same_objects m.state.last m.state.objects
settles_later m (Does reply sessions None) sound holds = same_objects m.state.last m.state.objects
settles_later m (Does reply sessions (Some acts)) sound holds =
    acts_later m.state m.state.objects acts (holds.acts.moves sound.begun)
    (same_objects m.state.last m.state.objects)

-- an event
pub later_step : (m : Machine) (e : Event) → SoundMachine m
    → AreLater (stamp_of m.state (reading_of e)) m.state.objects (step m e).0.state.objects
later_step m e sound = each_event m e
    (λ p acts. AreLater (stamp_of m.state (reading_of e)) m.state.objects p.0.state.objects)
    (settles_later (ready m e) (decided m e) (sound_ready m e sound) (lawful (ready m e) e))
    (same_objects (stamp_of m.state (reading_of e)) m.state.objects)

-- ---- what stands at an id

record Standing (objects : List Object) (id : ℕ) (is : Kind → Type 0) : Type 0 where
  object : Object
  there : at_id objects id ≡ Some object
  kind : is object.kind

abbrev IsStream : Stream → Kind → Type 0
IsStream s k = k ≡ StreamKind s

abbrev IsTable : Table → Kind → Type 0
IsTable t k = k ≡ TableKind t

table_found : (objects : List Object) (id : ℕ) (o : Object) (t : Table) → at_id objects id ≡ Some o
    → o.kind ≡ TableKind t → base_at objects id ≡ Some t
table_found objects id o t there is = rw (there, is) refl

stands : (objects : List Object) (id : ℕ) (is : Kind → Type 0) → (at_id objects id ≡ None → ⊥)
    → ((o : Object) → at_id objects id ≡ Some o → is o.kind) → Standing objects id is
stands objects id is some kind = by_found (at_id objects id) refl
  where
    by_found : (found : Option Object) → at_id objects id ≡ found → Standing objects id is
    by_found None missing = absurd (some missing)
    by_found (Some o) there = record { object = o; there = there; kind = kind o there }

stream_stands : (objects : List Object) (id : ℕ) (s : Stream) → stream_at objects id ≡ Some s
    → Standing objects id (IsStream s)
stream_stands objects id s at =
    stands objects id (IsStream s) (λ missing. let none : stream_at objects id ≡ None = rw missing refl in absurd cc)
    (λ o there. by_kind o there o.kind refl)
  where
    by_kind : (o : Object) → at_id objects id ≡ Some o → (k : Kind) → o.kind ≡ k → IsStream s k
    by_kind o there (TableKind t) is = let none : stream_at objects id ≡ None = rw (there, is) refl in absurd cc
    by_kind o there (TaskKind t) is = let none : stream_at objects id ≡ None = rw (there, is) refl in absurd cc
    by_kind o there (DynamicKind d t) is =
        let none : stream_at objects id ≡ None = rw (there, is) refl in absurd cc
    by_kind o there (StreamKind r) is = ap StreamKind (some_same r s (sym (stream_found objects id o r there is) ∙ at))

table_stands : (objects : List Object) (id : ℕ) (t : Table) → base_at objects id ≡ Some t
    → Standing objects id (IsTable t)
table_stands objects id t at =
    stands objects id (IsTable t) (λ missing. let none : base_at objects id ≡ None = rw missing refl in absurd cc)
    (λ o there. by_kind o there o.kind refl)
  where
    by_kind : (o : Object) → at_id objects id ≡ Some o → (k : Kind) → o.kind ≡ k → IsTable t k
    by_kind o there (StreamKind r) is = let none : base_at objects id ≡ None = rw (there, is) refl in absurd cc
    by_kind o there (TaskKind t) is = let none : base_at objects id ≡ None = rw (there, is) refl in absurd cc
    by_kind o there (DynamicKind d t) is = let none : base_at objects id ≡ None = rw (there, is) refl in absurd cc
    by_kind o there (TableKind u) is = ap TableKind (some_same u t (sym (table_found objects id o u there is) ∙ at))

-- and later on
record Later (R : Object → Object → Type 0) (objects : List Object) (id : ℕ) (old : Object) : Type 0 where
  object : Object
  there : at_id objects id ≡ Some object
  is : R old object

get_later : (R : Object → Object → Type 0) (xs ys : List Object) (place : ℕ) (x : Object) → Extends R xs ys
    → slice_get xs place ≡ Some x → Later R ys (suc place) x
get_later R [] ys place x is there = absurd cc
get_later R (o ∷ os) [] place x is there = absurd is
get_later R (o ∷ os) (p ∷ ps) zero x is there =
    record { object = p; there = refl; is = subst (λ old. R old p) (some_same o x there) is.0 }
get_later R (o ∷ os) (p ∷ ps) (suc place) x is there =
    let rest = get_later R os ps place x is.1 there in
    record { object = rest.object; there = rest.there; is = rest.is }

at_later : (R : Object → Object → Type 0) (xs ys : List Object) (id : ℕ) (x : Object) → Extends R xs ys
    → at_id xs id ≡ Some x → Later R ys id x
at_later R xs ys zero x is there = absurd cc
at_later R xs ys (suc place) x is there = get_later R xs ys place x is there

record LaterStream (stamp : ℕ) (objects : List Object) (id : ℕ) (old : Stream) : Type 0 where
  stream : Stream
  there : stream_at objects id ≡ Some stream
  later : IsLaterStream stamp old stream

stream_later : (stamp : ℕ) (xs ys : List Object) (id : ℕ) (s : Stream) → AreLater stamp xs ys
    → stream_at xs id ≡ Some s → LaterStream stamp ys id s
stream_later stamp xs ys id s later at =
    let before = stream_stands xs id s at in
    let now = at_later (IsLater stamp) xs ys id before.object later before.there in
    by_kind now.object now.there now.object.kind refl
    (subst (λ (k : Kind). IsLaterKind stamp k now.object.kind) before.kind now.is)
  where
    by_kind : (o : Object) → at_id ys id ≡ Some o → (k : Kind) → o.kind ≡ k → IsLaterKind stamp (StreamKind s) k
        → LaterStream stamp ys id s
    by_kind o there (TableKind t) is kept = absurd kept
    by_kind o there (TaskKind t) is kept = absurd kept
    by_kind o there (DynamicKind d t) is kept = absurd kept
    by_kind o there (StreamKind r) is kept =
        record { stream = r; there = stream_found ys id o r there is; later = kept }

pub record LaterTable (stamp : ℕ) (objects : List Object) (id : ℕ) (old : Table) : Type 0 where
  pub table : Table
  pub there : base_at objects id ≡ Some table
  pub kept : (time : ℕ) → time < stamp → rows_at table time ≡ rows_at old time

table_later : (stamp : ℕ) (xs ys : List Object) (id : ℕ) (t : Table) → AreLater stamp xs ys
    → base_at xs id ≡ Some t → LaterTable stamp ys id t
table_later stamp xs ys id t later at =
    let before = table_stands xs id t at in
    let now = at_later (IsLater stamp) xs ys id before.object later before.there in
    by_kind now.object now.there now.object.kind refl
    (subst (λ (k : Kind). IsLaterKind stamp k now.object.kind) before.kind now.is)
  where
    by_kind : (o : Object) → at_id ys id ≡ Some o → (k : Kind) → o.kind ≡ k → IsLaterKind stamp (TableKind t) k
        → LaterTable stamp ys id t
    by_kind o there (StreamKind r) is kept = absurd kept
    by_kind o there (TaskKind u) is kept = absurd kept
    by_kind o there (DynamicKind d u) is kept = absurd kept
    by_kind o there (TableKind u) is kept =
        record { table = u; there = table_found ys id o u there is; kept = kept }

-- ---- runs of events

-- it is a table
pub base_table : (objects : List Object) (id : ℕ) (t : Table) → base_at objects id ≡ Some t
    → table_at objects id ≡ Some t
base_table objects id t at = let is = table_stands objects id t at in rw (is.there, is.kind) refl

table_rows : (objects : List Object) (id time : ℕ) (t : Table) → base_at objects id ≡ Some t
    → rows_then objects id time ≡ rows_at t time
table_rows objects id time t at = let here = base_table objects id t at in rw here refl

pub table_after : (id : ℕ) (m : Machine) (es : List Event) → SoundMachine m → (t : Table)
    → base_at m.state.objects id ≡ Some t → LaterTable (suc m.state.last) (after m es).state.objects id t
table_after id m [] sound t at = record { table = t; there = at; kept = λ time before. refl }
table_after id m (e ∷ es) sound t at =
    let stamp : ℕ = stamp_of m.state (reading_of e) in
    let now = table_later stamp m.state.objects (step m e).0.state.objects id t (later_step m e sound) at in
    let last = table_after id (step m e).0 es (sound_step m e sound) now.table now.there in
    record {
      table = last.table;
      there = last.there;
      kept = λ time before. last.kept time (omega (arith, last_grows m e, before))
          ∙ now.kept time (omega (arith, before));
    }

-- a version at a time that has passed stays
pub versions_stay : (id time : ℕ) (m : Machine) (es : List Event) → SoundMachine m → (t : Table)
    → base_at m.state.objects id ≡ Some t → time ≤ m.state.last
    → rows_then (after m es).state.objects id time ≡ rows_at t time
versions_stay id time m es sound t at passed =
    let now = table_after id m es sound t at in
    table_rows (after m es).state.objects id time now.table now.there ∙ now.kept time (omega (arith, passed))

nothing_patched : (rows : Rows) → patch rows [] ≡ rows
unfolding patch
nothing_patched rows = refl

greater_first : (to offset : ℕ) → nat_le to offset ≡ true → offset ≡ max offset to
greater_first to offset is = grind (arith, nat_tests)

greater_last : (to offset : ℕ) → nat_le to offset ≡ false → to ≡ max offset to
greater_last to offset is = grind (arith, nat_tests)

-- what a standard stream shows up to a stamp, made on the rows at its offset, gives the rows at that stamp
pub shown_leads : (t : Table) (s : Stream) (to : ℕ) → s.is_append_only ≡ false
    → patch (rows_at t s.offset) (shown t s to) ≡ rows_at t (max s.offset to)
unfolding shown
shown_leads t s to standard = by_test (nat_le to s.offset) refl
  where
    by_test : (b : Bool) → nat_le to s.offset ≡ b
        → patch (rows_at t s.offset) (cond b [] (records_between s.is_append_only t s.offset to))
        ≡ rows_at t (max s.offset to)
    by_test true is = nothing_patched (rows_at t s.offset) ∙ ap (rows_at t) (greater_first to s.offset is)
    by_test false is =
        ap (λ (mode : Bool). patch (rows_at t s.offset) (records_between mode t s.offset to)) standard
        ∙ patched (rows_at t s.offset) (rows_at t to) ∙ ap (rows_at t) (greater_last to s.offset is)

-- the offset isn't behind the last stamp
pub offset_passed : (m : Machine) → SoundMachine m → (id : ℕ) (s : Stream) → stream_at m.state.objects id ≡ Some s
    → s.offset ≤ m.state.last
offset_passed m sound id s at =
    let here = stream_stands m.state.objects id s at in
    let is : IsSoundObject m.state.committed m.state.objects here.object =
    all_at (IsSoundObject m.state.committed m.state.objects) m.state.objects id here.object sound.state.objects
    here.there in
    let within : IsSoundKind m.state.committed m.state.objects (StreamKind s) =
    subst (IsSoundKind m.state.committed m.state.objects) here.kind is in
    omega (arith, within, sound.state.ordered)

-- the batches in which a standard stream on a table was consumed, made one after the other on the rows of its source at
-- its offset, give those at the offset that it has at last: nothing is lost, and nothing comes twice
pub batches_lead : (id : ℕ) (m : Machine) (es : List Event) → SoundMachine m → (s : Stream) (t : Table)
    → stream_at m.state.objects id ≡ Some s → s.is_append_only ≡ false → base_at m.state.objects s.source ≡ Some t
    → all_patched (rows_at t s.offset) (batches id m es)
    ≡ rows_consumed (after m es).state.objects (stream_at (after m es).state.objects id)
batches_lead id m [] sound s t at standard tabled =
    sym (ap (rows_consumed m.state.objects) at ∙ table_rows m.state.objects s.source s.offset t tabled)
batches_lead id m (e ∷ es) sound s t at standard tabled =
    let stamp : ℕ = stamp_of m.state (reading_of e) in
    let next : List Object = (step m e).0.state.objects in
    let now = stream_later stamp m.state.objects next id s (later_step m e sound) at in
    let source = table_later stamp m.state.objects next s.source t (later_step m e sound) tabled in
    let r : Stream = now.stream in
    let batch : consumed id m e ≡ shown t s r.offset =
    ap (λ (found : Option Stream). shown_to m.state.objects found (stream_at next id)) at
    ∙ ap (shown_to m.state.objects (Some s)) now.there
    ∙ ap (λ (found : Option Table). shown_of found s r.offset) (base_table m.state.objects s.source t tabled) in
    let greater : max s.offset r.offset ≡ r.offset = omega (arith, now.later.not_before) in
    let before : r.offset < stamp = omega (arith, now.later.not_behind, offset_passed m sound id s at) in
    let leads : patch (rows_at t s.offset) (consumed id m e) ≡ rows_at source.table r.offset =
    ap (patch (rows_at t s.offset)) batch ∙ shown_leads t s r.offset standard ∙ ap (rows_at t) greater
    ∙ sym (source.kept r.offset before) in
    ap (λ (rows : Rows). all_patched rows (batches id (step m e).0 es)) leads
    ∙ batches_lead id (step m e).0 es (sound_step m e sound) r source.table now.there (now.later.mode ∙ standard)
    (subst (λ (source_id : ℕ). base_at next source_id ≡ Some source.table) (sym now.later.source) source.there)
