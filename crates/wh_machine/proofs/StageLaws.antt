-- Effects that fit, on top of what a transaction holds.
--     EffectFits, HoldsEffect     the rows of an effect fit a live base table
--     later_fit                   edits with an effect more fit
--     staged_stands               a transaction with it stands
--     alone_stands                so does one of a change by itself
--     ChangedFits, works_changes  what a change comes to, and that its outcome works
use Rattle.std.proofs.Common.{◌≡◌, ℕ, zero, suc, ◌+◌, Bool, true, false, cond, List, []}
use Rattle.std.proofs.Common.{◌∷◌, map, Option, Some, None, refl, sym, ap, subst, ◌∙◌, IsTrue}
use Rattle.std.specs.Prelude.{nat_lt, nat_eq, if◌then◌else◌}
use Rattle.std.specs.List.{AllByRecursion}
use Rattle.std.specs.Option.{IsSomeAnd}
use Rattle.std.specs.FinMap.{empty, get, insert, entries, get-insert, get-empty}
use Rattle.std.specs.Cmp.{nat_cmp_total}
use Rattle.std.specs.Ordering.{nat_cmp, eq_by_cmp}
use Rattle.wh_value.specs.Value.{Row}
use Rattle.wh_value.specs.Column.{Column}
use Rattle.wh_value.specs.Fits.{row_fits}
use Rattle.wh_frame.specs.Partition.{numbered}
use Rattle.wh_naming.specs.Changes.{Modification}
use Rattle.wh_effect.specs.Effect.{Effect}
use Rattle.wh_state.specs.State.{TaskKind, DynamicKind}
use Rattle.wh_state.specs.State.{at_id}
use Rattle.wh_state.specs.State.{TableKind, StreamKind, table_in}
use Rattle.wh_state.specs.Objects.{table_at}
use Rattle.wh_state.specs.Edits.{RowEdits, Edits, edited, with_removed, with_changed, edits_from, with_later}
use Rattle.wh_state.specs.Edits.{added_left}
use Rattle.wh_state.specs.Edits.{later_edits, no_edits}
use Rattle.wh_state.specs.Stored.{StoredKind, StoredObject, Stored}
use Rattle.wh_state.proofs.AllLaws.{all_append, all_with}
use Rattle.wh_state.proofs.RowLaws.{number_tied}
use Rattle.wh_state.proofs.FoundLaws.{FoundAt}
use Rattle.wh_state.proofs.PartLaws.{edited_all}
use Rattle.wh_state.proofs.AppliesLaws.{EditsFit}
use Rattle.wh_state.proofs.WrittenLaws.{IsBase}
use Rattle.wh_machine.specs.Offsets.{with_stream, with_streams}
use Rattle.wh_machine.specs.Changes.{Changed, Fails, Gives, edits_of, reply_to}
use Rattle.wh_machine.specs.Transaction.{Staged, Transaction, begun, staged_in, with_effect, next_row_of, staged}
use Rattle.wh_machine.specs.Transaction.{staged_in_state}
use Rattle.wh_machine.specs.Sessions.{Sessions, transaction_in}
use Rattle.wh_machine.specs.Outcome.{Machine}
use Rattle.wh_machine.specs.Statements.{changes_in}
use Rattle.wh_machine.proofs.GotLaws.{entries_hold}
use Rattle.wh_machine.proofs.StandLaws.{HoldsEdits, IsLiveStream, TransactionStands, StandsOn, AllStandOn}
use Rattle.wh_machine.proofs.WorksLaws.{IsReached, Works, works_refuses, works_does, works_recorded}

pub record EffectFits (columns : List Column) (e : Effect) : Type 0 where
  pub changed : AllByRecursion (λ entry. IsTrue (row_fits columns entry.1)) e.changed
  pub added : AllByRecursion (λ row. IsTrue (row_fits columns row)) e.added

abbrev pub HoldsEffect : Effect → StoredObject → Type 0
HoldsEffect e o = IsTrue o.is_live × (IsSomeAnd (table_in o.kind) (λ t. EffectFits t.columns e) × IsBase o)

-- ---- edits by numbers

-- each new row fits
abbrev NewRowsFit : List Column → RowEdits → Type 0
NewRowsFit columns edits = (number : ℕ) (row : Row) → get edits number ≡ Some (Some row) → IsTrue (row_fits columns row)

nothing_in : {X : Type 0} (number : ℕ) → get (empty {K = ℕ} {X = X} {R = nat_cmp}) number ≡ None
nothing_in number = get-empty nat_cmp number

none_fit : (columns : List Column) → NewRowsFit columns empty
none_fit columns number row is = absurd (cc (nothing_in {X = Option Row} number, is))

put_fit : (columns : List Column) (edits : RowEdits) (k : ℕ) (new : Option Row)
    → ((row : Row) → new ≡ Some row → IsTrue (row_fits columns row)) → NewRowsFit columns edits
    → NewRowsFit columns (insert edits k new)
put_fit columns edits k new fits old number row is =
    by_tie (eq_by_cmp nat_cmp number k) (sym (get-insert nat_cmp_total edits k new number) ∙ is)
  where
    by_tie : (tie : Bool) → cond tie (Some new) (get edits number) ≡ Some (Some row) → IsTrue (row_fits columns row)
    by_tie true is = fits row cc
    by_tie false is = old number row is

removed_fit : (columns : List Column) (edits : RowEdits) (numbers : List ℕ) → NewRowsFit columns edits
    → NewRowsFit columns (with_removed edits numbers)
removed_fit columns edits [] old = old
removed_fit columns edits (number ∷ numbers) old =
    removed_fit columns (insert edits number None) numbers
    (put_fit columns edits number None (λ row is. absurd cc) old)

changed_fit : (columns : List Column) (edits : RowEdits) (changed : List (ℕ × Row))
    → AllByRecursion (λ entry. IsTrue (row_fits columns entry.1)) changed → NewRowsFit columns edits
    → NewRowsFit columns (with_changed edits changed)
changed_fit columns edits [] fit old = old
changed_fit columns edits (entry ∷ others) fit old =
    changed_fit columns (insert edits entry.0 (Some entry.1)) others fit.1
    (put_fit columns edits entry.0 (Some entry.1) (λ row is.
    let same : entry.1 ≡ row = cc in subst (λ (r : Row). IsTrue (row_fits columns r)) same fit.0) old)

effect_fit : (columns : List Column) (e : Effect) → EffectFits columns e → EditsFit columns (edits_of e)
unfolding edits_from
effect_fit columns e fits = record {
  rows = changed_fit columns (with_removed empty e.removed) e.changed fits.changed
      (removed_fit columns empty e.removed (none_fit columns));
  added = fits.added;
}

later_put : (columns : List Column) (next : ℕ) (edits : RowEdits) (es : List (ℕ × Option Row))
    → AllByRecursion (λ e. (row : Row) → e.1 ≡ Some row → IsTrue (row_fits columns row)) es → NewRowsFit columns edits
    → NewRowsFit columns (with_later next edits es)
later_put columns next edits [] fit old = old
later_put columns next edits (e ∷ es) fit old =
    later_put columns next (if nat_lt e.0 next then insert edits e.0 e.1 else edits) es fit.1
    (by_test (nat_lt e.0 next))
  where
    by_test : (b : Bool) → NewRowsFit columns (cond b (insert edits e.0 e.1) edits)
    by_test true = put_fit columns edits e.0 e.1 fit.0 old
    by_test false = old

pub numbered_all : (columns : List Column) (next : ℕ) (rows : List Row)
    → AllByRecursion (λ row. IsTrue (row_fits columns row)) rows
    → AllByRecursion (λ e. IsTrue (row_fits columns e.1)) (numbered next rows)
numbered_all columns next [] fit = tt
numbered_all columns next (row ∷ rows) fit = (fit.0, numbered_all columns (next + 1) rows fit.1)

pub rows_all : (columns : List Column) (es : List (ℕ × Row)) → AllByRecursion (λ e. IsTrue (row_fits columns e.1)) es
    → AllByRecursion (λ row. IsTrue (row_fits columns row)) (map (λ e. e.1) es)
rows_all columns [] fit = tt
rows_all columns (e ∷ es) fit = (fit.0, rows_all columns es fit.1)

-- edits on top of edits
pub later_fit : (columns : List Column) (next : ℕ) (old new : Edits) → EditsFit columns old → EditsFit columns new
    → EditsFit columns (later_edits next old new)
unfolding later_edits
later_fit columns next old new before fit = record {
  rows = later_put columns next old.rows (entries new.rows)
      (entries_hold (λ number edit. (row : Row) → edit ≡ Some row → IsTrue (row_fits columns row)) new.rows
      (λ number edit at row is. fit.rows number row (at ∙ ap Some is))) before.rows;
  added = all_append (λ row. IsTrue (row_fits columns row)) (added_left next new.rows old.added) new.added
      (rows_all columns (edited new.rows (numbered next old.added))
      (edited_all (λ e. IsTrue (row_fits columns e.1)) new.rows (λ number row old is h. fit.rows number row is)
      (numbered next old.added) (numbered_all columns next old.added before.added))) fit.added;
}

pub no_edits_fit : (columns : List Column) → EditsFit columns no_edits
no_edits_fit columns = record { rows = none_fit columns; added = tt }

-- ---- transactions

stream_all : (P : ℕ → Type 0) (id : ℕ) (ids : List ℕ) → P id → AllByRecursion P ids →
    AllByRecursion P (with_stream id ids)
stream_all P id [] here h = (here, tt)
stream_all P id (other ∷ others) here h =
    by_tests (nat_lt id other) (nat_eq id other) (stream_all P id others here h.1)
  where
    by_tests : (less same : Bool) → AllByRecursion P (with_stream id others)
        → AllByRecursion P (cond less (id ∷ other ∷ others)
        (cond same (other ∷ others) (other ∷ with_stream id others)))
    by_tests true same rest = (here, h)
    by_tests false true rest = h
    by_tests false false rest = (h.0, rest)

streams_all : (P : ℕ → Type 0) (more ids : List ℕ) → AllByRecursion P more → AllByRecursion P ids
    → AllByRecursion P (with_streams more ids)
streams_all P [] ids some h = h
streams_all P (id ∷ more) ids some h = streams_all P more (with_stream id ids) some.1 (stream_all P id ids some.0 h)

-- what is staged for a table before an effect
staged_fits : (objects : List StoredObject) (t : Transaction) (id next : ℕ) (e : Effect) → TransactionStands objects t
    → FoundAt (HoldsEffect e) objects id
    → FoundAt (HoldsEdits (with_effect next e (staged_in (get t.tables id))).edits) objects id
staged_fits objects t id next e stands holds = by_staged (get t.tables id) refl
  where
    with_kind : (k : StoredKind) (old : Edits) → IsSomeAnd (table_in k) (λ t. EditsFit t.columns old)
        → IsSomeAnd (table_in k) (λ t. EffectFits t.columns e)
        → IsSomeAnd (table_in k) (λ t. EditsFit t.columns (later_edits next old (edits_of e)))
    with_kind (TableKind t) old before fits =
        later_fit t.columns next old (edits_of e) before (effect_fit t.columns e fits)
    with_kind (StreamKind s) old before fits = absurd before
    with_kind (TaskKind t) old before fits = absurd before
    with_kind (DynamicKind d t) old before fits =
        later_fit t.columns next old (edits_of e) before (effect_fit t.columns e fits)

    with_found : (found : Option StoredObject) (old : Edits) → IsSomeAnd found (HoldsEdits old)
        → IsSomeAnd found (HoldsEffect e) → IsSomeAnd found (HoldsEdits (later_edits next old (edits_of e)))
    with_found None old before fits = absurd before
    with_found (Some o) old before fits = (before.0, (with_kind o.kind old before.1.0 fits.1.0, before.1.1))

    untouched_kind : (k : StoredKind) → IsSomeAnd (table_in k) (λ t. EffectFits t.columns e)
        → IsSomeAnd (table_in k) (λ t. EditsFit t.columns no_edits)
    untouched_kind (TableKind t) fits = no_edits_fit t.columns
    untouched_kind (StreamKind s) fits = absurd fits
    untouched_kind (TaskKind t) fits = absurd fits
    untouched_kind (DynamicKind d t) fits = no_edits_fit t.columns

    untouched_found : (found : Option StoredObject) → IsSomeAnd found (HoldsEffect e) →
        IsSomeAnd found (HoldsEdits no_edits)
    untouched_found None fits = absurd fits
    untouched_found (Some o) fits = (fits.0, (untouched_kind o.kind fits.1.0, fits.1.1))

    by_staged : (found : Option Staged) → get t.tables id ≡ found
        → FoundAt (HoldsEdits (later_edits next (staged_in found).edits (edits_of e))) objects id
    by_staged None is = with_found (at_id objects id) no_edits (untouched_found (at_id objects id) holds) holds
    by_staged (Some s) is = with_found (at_id objects id) s.edits (stands.tables id s is) holds

pub staged_stands : (objects : List StoredObject) (t : Transaction) (id : ℕ) (streams : List ℕ) (next : ℕ) (e : Effect)
    → TransactionStands objects t → FoundAt (HoldsEffect e) objects id
    → AllByRecursion (FoundAt IsLiveStream objects) streams
    → TransactionStands objects (staged t id streams next e)
unfolding staged
staged_stands objects t id streams next e stands holds live = record {
  tables = λ q s is. by_tie q s (eq_by_cmp nat_cmp q id) refl
      (sym (get-insert nat_cmp_total t.tables id (with_effect next e (staged_in (get t.tables id))) q) ∙ is);
  streams = streams_all (FoundAt IsLiveStream objects) streams t.streams live stands.streams;
}
  where
    by_tie : (q : ℕ) (s : Staged) (tie : Bool) → eq_by_cmp nat_cmp q id ≡ tie
        → cond tie (Some (with_effect next e (staged_in (get t.tables id)))) (get t.tables q) ≡ Some s
        → FoundAt (HoldsEdits s.edits) objects q
    by_tie q s true tied is =
        let new : with_effect next e (staged_in (get t.tables id)) ≡ s = cc in
        subst (λ (n : ℕ). FoundAt (HoldsEdits s.edits) objects n) (sym (number_tied q id tied))
        (subst (λ (u : Staged). FoundAt (HoldsEdits u.edits) objects id) new
        (staged_fits objects t id next e stands holds))
    by_tie q s false tied is = stands.tables q s is

pub begun_stands : (objects : List StoredObject) (stamp : ℕ) → TransactionStands objects (begun stamp)
begun_stands objects stamp = record { tables = λ id s is. absurd (cc (nothing_in {X = Staged} id, is)); streams = tt }

pub one_stands : (objects : List StoredObject) (sessions : Sessions) (session : ℕ) → AllStandOn objects sessions
    → StandsOn objects (transaction_in sessions session)
one_stands objects [] session stand = tt
one_stands objects (one ∷ others) zero stand = stand.0
one_stands objects (one ∷ others) (suc session) stand = one_stands objects others session stand.1

-- ---- a change

abbrev pub ChangedFits : List StoredObject → Changed → Type 0
ChangedFits objects (Fails why) = Unit {0}
ChangedFits objects (Gives id streams change e) =
    FoundAt (HoldsEffect e) objects id × AllByRecursion (FoundAt IsLiveStream objects) streams

-- the transaction of a change by itself
pub alone_stands : (s : Stored) (m : Machine) (id : ℕ) (streams : List ℕ) (change : Modification) (e : Effect)
    → ChangedFits s.objects (Gives id streams change e)
    → TransactionStands s.objects (staged_in_state m.state (begun m.state.last) id streams e)
alone_stands s m id streams change e fits =
    staged_stands s.objects (begun m.state.last) id streams (next_row_of (table_at m.state.objects id)) e
    (begun_stands s.objects m.state.last) fits.0 fits.1

pub works_changes : (s : Stored) (m : Machine) (session : ℕ) (t : Option Transaction) →
    transaction_in m.sessions session ≡ t
    → (c : Changed) → IsReached s m → ChangedFits s.objects c → Works s m (changes_in m session t c)
works_changes s m session t is (Fails why) reached fits = works_refuses s m why reached
works_changes s m session None is (Gives id streams change e) reached fits =
    works_recorded s m (reply_to change e) m.sessions
    (staged_in_state m.state (begun m.state.last) id streams e) reached reached.stand
    (alone_stands s m id streams change e fits)
works_changes s m session (Some t) is (Gives id streams change e) reached fits =
    works_does s m (reply_to change e) _
    (all_with (StandsOn s.objects) m.sessions (suc session)
    (Some (staged_in_state m.state t id streams e)) reached.stand
    (staged_stands s.objects t id streams (next_row_of (table_at m.state.objects id)) e
    (subst (StandsOn s.objects) is (one_stands s.objects m.sessions session reached.stand)) fits.0 fits.1))
