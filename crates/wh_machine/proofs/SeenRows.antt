-- The rows that statements read fit the columns of what they read.
--     RowsFitIn          of rows by their numbers
--     versions_fit       those of each version of a table that a file keeps
--     seen_fits          those of a table as a transaction sees it
--     shown_fit          those of a stream
--     read_fits          those of an object
use Rattle.std.proofs.Common.{◌≡◌, ℕ, zero, suc, ◌+◌, List, [], ◌∷◌, ◌++◌, map}
use Rattle.std.proofs.Common.{Option, Some, None, option_map, refl, sym, ap, subst, ◌∙◌, arith, IsTrue}
use Rattle.std.specs.Prelude.{slice_get}
use Rattle.std.specs.List.{AllByRecursion, flat_map}
use Rattle.std.specs.Option.{IsSomeAnd, IfSome, option_and_then}
use Rattle.std.specs.FinMap.{FinMap, empty, get, entries, get-empty}
use Rattle.std.specs.Ordering.{nat_cmp}
use Rattle.wh_value.specs.Value.{Row}
use Rattle.wh_value.specs.Column.{Column}
use Rattle.wh_value.specs.Fits.{row_fits}
use Rattle.wh_frame.specs.Partition.{Partition, numbered}
use Rattle.wh_state.specs.State.{Kind, StreamKind, TaskKind, DynamicKind}
use Rattle.wh_state.specs.State.{Rows, Version, Table, TableKind, Object, at_id}
use Rattle.wh_state.specs.State.{last_of, content_in, last_rows, nothing_held, version_at}
use Rattle.wh_state.specs.State.{table_in}
use Rattle.wh_state.specs.Objects.{table_at, as_table}
use Rattle.wh_state.specs.Edits.{Edits, no_edits, edited, rows_after}
use Rattle.wh_state.specs.Act.{edited_kind}
use Rattle.wh_state.specs.Act.{edited_table, next_contents}
use Rattle.wh_state.specs.Stored.{StoredVersion, StoredTable, StoredKind, StoredObject, Stored}
use Rattle.wh_state.specs.Stored.{version_meant, table_meant, kind_meant, object_meant}
use Rattle.wh_state.proofs.AllLaws.{all_append, all_at}
use Rattle.wh_state.proofs.IdLaws.{last_more}
use Rattle.wh_state.proofs.CutLaws.{entries_append}
use Rattle.wh_state.proofs.FoundLaws.{FoundAt}
use Rattle.wh_state.proofs.MeaningLaws.{at_id_meant}
use Rattle.wh_state.proofs.PartLaws.{edited_all}
use Rattle.wh_state.proofs.AppliesLaws.{FitRows, VersionFits, IsFirmTable, EditsFit}
use Rattle.wh_state.proofs.FirmLaws.{IsFirmObject}
use Rattle.wh_machine.specs.Transaction.{Staged, Transaction, with_own, seen_from, seen}
use Rattle.wh_machine.specs.Sessions.{transaction_in}
use Rattle.wh_machine.specs.Outcome.{Machine}
use Rattle.wh_machine.specs.Reading.{objects_seen}
use Rattle.wh_machine.proofs.GotLaws.{entries_hold, rows_hold}
use Rattle.wh_machine.proofs.StandLaws.{HoldsEdits, StandsOn}
use Rattle.wh_machine.proofs.StageLaws.{numbered_all, one_stands}
use Rattle.wh_machine.proofs.WorksLaws.{IsReached, objects_meant}

abbrev pub Fit : List Column → Row → Type 0
Fit columns row = IsTrue (row_fits columns row)

abbrev pub RowsFitIn : List Column → Rows → Type 0
RowsFitIn columns rows = (q : ℕ) (x : Row) → get rows q ≡ Some x → Fit columns x

nothing_in : (number : ℕ) → get (empty {K = ℕ} {X = Row} {R = nat_cmp}) number ≡ None
nothing_in number = get-empty nat_cmp number

pub no_rows_fit : (columns : List Column) → RowsFitIn columns empty
no_rows_fit columns q x is = absurd (cc (nothing_in q, is))

-- ---- versions

flat_all : (columns : List Column) (ps : List Partition) → AllByRecursion (FitRows columns) ps
    → AllByRecursion (λ e. Fit columns e.1) (flat_map (λ p. p.rows) ps)
flat_all columns [] h = tt
flat_all columns (p ∷ ps) h =
    all_append (λ e. Fit columns e.1) p.rows (flat_map (λ p. p.rows) ps) h.0 (flat_all columns ps h.1)

abbrev pub VersionRowsFit : List Column → Version → Type 0
VersionRowsFit columns v = RowsFitIn columns v.content.rows

pub versions_fit : (columns : List Column) (versions : List StoredVersion) →
    AllByRecursion (VersionFits columns) versions
    → AllByRecursion (VersionRowsFit columns) (map version_meant versions)
versions_fit columns [] h = tt
versions_fit columns (v ∷ vs) h = (
  λ q x is. rows_hold (λ q x. Fit columns x) (flat_map (λ p. p.rows) v.content) (flat_all columns v.content h.0) q x is,
  versions_fit columns vs h.1,
)

pub last_fits : (columns : List Column) (versions : List Version) → AllByRecursion (VersionRowsFit columns) versions
    → RowsFitIn columns (content_in nothing_held (last_of versions)).rows
last_fits columns [] h = no_rows_fit columns
last_fits columns (v ∷ []) h = h.0
last_fits columns (v ∷ w ∷ vs) h = last_fits columns (w ∷ vs) h.1

-- ---- a table as it is seen

after_fits : (columns : List Column) (next : ℕ) (e : Edits) (rows : Rows) → EditsFit columns e → RowsFitIn columns rows
    → RowsFitIn columns (rows_after next e rows)
unfolding rows_after
after_fits columns next e rows fit before =
    subst (RowsFitIn columns) (entries_append empty (edited e.rows (entries rows)) (numbered next e.added))
    (λ q x is. rows_hold (λ q x. Fit columns x) (edited e.rows (entries rows) ++ numbered next e.added)
    (all_append (λ e. Fit columns e.1) (edited e.rows (entries rows)) (numbered next e.added)
    (edited_all (λ e. Fit columns e.1) e.rows (λ number row old is h. fit.rows number row is) (entries rows)
    (entries_hold (λ q x. Fit columns x) rows before)) (numbered_all columns next e.added fit.added)) q x is)

edited_fits : (columns : List Column) (stamp : ℕ) (e : Edits) (t : Table) → EditsFit columns e
    → RowsFitIn columns (last_rows t) → RowsFitIn columns (last_rows (edited_table stamp stamp e t))
unfolding edited_table
edited_fits columns stamp e t fit before =
    subst (λ (found : Option Version). RowsFitIn columns (content_in nothing_held found).rows)
    (sym (last_more t.versions (version_at stamp (next_contents e t))))
    (after_fits columns t.next_row e (last_rows t) fit before)

seen_get : (stamp from : ℕ) (tables : FinMap nat_cmp Staged) (objects : List Object) (place id : ℕ) → id ≡ from + place
    → slice_get (seen_from stamp from tables objects) place
    ≡ option_map (with_own stamp (get tables id)) (slice_get objects place)
seen_get stamp from tables [] place id is = refl
seen_get stamp from tables (o ∷ os) zero id is =
    let same : from ≡ id = omega arith in ap (λ (n : ℕ). Some (with_own stamp (get tables n) o)) same
seen_get stamp from tables (o ∷ os) (suc place) id is = seen_get stamp (suc from) tables os place id (omega arith)

seen_at : (stamp : ℕ) (tables : FinMap nat_cmp Staged) (objects : List Object) (id : ℕ)
    → at_id (seen_from stamp 1 tables objects) id ≡ option_map (with_own stamp (get tables id)) (at_id objects id)
seen_at stamp tables objects zero = refl
seen_at stamp tables objects (suc place) = seen_get stamp 1 tables objects place (suc place) (omega arith)

-- what a session sees of a table
pub record SeesTable (m : Machine) (session id : ℕ) (columns : List Column) : Type 0 where
  pub table : Table
  pub there : table_at (objects_seen m session) id ≡ Some table
  pub rows : RowsFitIn columns (last_rows table)

firm_rows : (t : StoredTable) → IsFirmTable t → RowsFitIn t.columns (last_rows (table_meant t))
firm_rows t firm = last_fits t.columns (map version_meant t.versions) (versions_fit t.columns t.versions firm.fits)

pub seen_fits : (s : Stored) (m : Machine) (session id : ℕ) (o : StoredObject) (t : StoredTable) → IsReached s m
    → at_id s.objects id ≡ Some o → table_in o.kind ≡ Some t → SeesTable m session id t.columns
unfolding seen
seen_fits s m session id o t reached there is =
    by_transaction (transaction_in m.sessions session) refl (one_stands s.objects m.sessions session reached.stand)
  where
    firm : IsFirmTable t
    firm = subst (λ (found : Option StoredTable). IfSome found IsFirmTable) is
        (all_at IsFirmObject s.objects id o reached.firm.tables there)

    now : at_id m.state.objects id ≡ Some (object_meant o)
    now = ap (λ (objects : List Object). at_id objects id) (objects_meant s m reached)
        ∙ at_id_meant s.objects id ∙ ap (option_map object_meant) there

    own_of : (k : StoredKind) (stamp : ℕ) (e : Edits) → table_in k ≡ Some t
        → (table_in (kind_meant k) ≡ Some (table_meant t))
        × (table_in (edited_kind stamp stamp e (kind_meant k)) ≡ Some (edited_table stamp stamp e (table_meant t)))
    own_of (TableKind u) stamp e is = let same : u ≡ t = cc in (
      ap (λ (t : StoredTable). Some (table_meant t)) same,
      ap (λ (t : StoredTable). Some (edited_table stamp stamp e (table_meant t))) same,
    )
    own_of (StreamKind s) stamp e is = absurd cc
    own_of (TaskKind t) stamp e is = absurd cc
    own_of (DynamicKind d u) stamp e is = let same : u ≡ t = cc in (
      ap (λ (t : StoredTable). Some (table_meant t)) same,
      ap (λ (t : StoredTable). Some (edited_table stamp stamp e (table_meant t))) same,
    )

    by_staged : (stamp : ℕ) (found : Option Staged)
        → ((st : Staged) → found ≡ Some st → EditsFit t.columns st.edits)
        → (u : Table) × ((as_table (with_own stamp found (object_meant o)) ≡ Some u)
        × RowsFitIn t.columns (last_rows u))
    by_staged stamp None fit = (table_meant t, ((own_of o.kind stamp no_edits is).0, firm_rows t firm))
    by_staged stamp (Some st) fit = (
      edited_table stamp stamp st.edits (table_meant t),
      (
        (own_of o.kind stamp st.edits is).1,
        edited_fits t.columns stamp st.edits (table_meant t) (fit st refl) (firm_rows t firm),
      ),
    )

    holds : (e : Edits) → FoundAt (HoldsEdits e) s.objects id → EditsFit t.columns e
    holds e h =
        subst (λ (found : Option StoredTable). IsSomeAnd found (λ t. EditsFit t.columns e)) is
        (subst (λ (found : Option StoredObject). IsSomeAnd found (HoldsEdits e)) there h).1.0

    by_transaction : (found : Option Transaction) → transaction_in m.sessions session ≡ found → StandsOn s.objects found
        → SeesTable m session id t.columns
    by_transaction None none stands =
        let own = by_staged m.state.last None (λ st is. absurd cc) in
        record {
          table = own.0;
          there = ap (λ (found : Option Transaction). table_at (seen m.state found).objects id) none
              ∙ ap (option_and_then as_table) now ∙ own.1.0;
          rows = own.1.1;
        }
    by_transaction (Some tr) some stands =
        let own = by_staged m.state.last (get tr.tables id) (λ st is. holds st.edits (stands.tables id st is)) in
        record {
          table = own.0;
          there = ap (λ (found : Option Transaction). table_at (seen m.state found).objects id) some
              ∙ ap (option_and_then as_table) (seen_at m.state.last tr.tables m.state.objects id
              ∙ ap (option_map (with_own m.state.last (get tr.tables id))) now) ∙ own.1.0;
          rows = own.1.1;
        }

-- what is no table isn't seen as one
pub none_seen : (m : Machine) (session id : ℕ) (o : Object) → at_id m.state.objects id ≡ Some o → table_in o.kind ≡ None
    → table_at (objects_seen m session) id ≡ None
unfolding seen
none_seen m session id o there none = by_transaction (transaction_in m.sessions session) refl
  where
    by_kind : (stamp : ℕ) (e : Edits) (k : Kind) → table_in k ≡ None → table_in (edited_kind stamp stamp e k) ≡ None
    by_kind stamp e (TableKind t) none = absurd cc
    by_kind stamp e (StreamKind s) none = refl
    by_kind stamp e (TaskKind t) none = refl
    by_kind stamp e (DynamicKind d t) none = absurd cc

    by_staged : (stamp : ℕ) (found : Option Staged) → as_table (with_own stamp found o) ≡ None
    by_staged stamp None = none
    by_staged stamp (Some st) = by_kind stamp st.edits o.kind none

    by_transaction : (found : Option Transaction) → transaction_in m.sessions session ≡ found
        → table_at (objects_seen m session) id ≡ None
    by_transaction None no_one =
        ap (λ (found : Option Transaction). table_at (seen m.state found).objects id) no_one
        ∙ ap (option_and_then as_table) there ∙ none
    by_transaction (Some tr) some =
        ap (λ (found : Option Transaction). table_at (seen m.state found).objects id) some
        ∙ ap (option_and_then as_table) (seen_at m.state.last tr.tables m.state.objects id
        ∙ ap (option_map (with_own m.state.last (get tr.tables id))) there)
        ∙ by_staged m.state.last (get tr.tables id)
