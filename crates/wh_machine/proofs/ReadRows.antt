-- The rows that a statement reads have the types of the columns of what it reads.
--     shown_fits         the rows of a stream
--     read_fits          those of an object
use Rattle.std.proofs.Common.{◌≡◌, ℕ, Bool, true, false, cond, List, [], ◌∷◌, ◌++◌, map}
use Rattle.std.proofs.Common.{Option, Some, None, option_map, refl, sym, ap, subst, ◌∙◌}
use Rattle.std.specs.Prelude.{nat_le, not}
use Rattle.std.specs.List.{AllByRecursion, filter, flat_map}
use Rattle.std.specs.Option.{IsSomeAnd, IfSome}
use Rattle.std.specs.Option.{option_and_then}
use Rattle.std.specs.FinMap.{get, entries, values}
use Rattle.std.specs.Ordering.{eq_by_cmp}
use Rattle.std.proofs.lemmas.List.{map-append}
use Rattle.wh_value.specs.Value.{Row, row_cmp}
use Rattle.wh_value.specs.Column.{Column, ColumnType}
use Rattle.wh_meaning.specs.Bag.{bag_of}
use Rattle.wh_net.specs.Net.{RowChange, deleted, inserted, net_change, numbers_in_either, net, first_here, is_in_one}
use Rattle.wh_net.specs.Net.{is_between, appended_from, appended}
use Rattle.wh_net.specs.Stream.{rows_at, records_between, shown, shown_row, rows_on, rows_shown}
use Rattle.wh_state.specs.State.{table_in}
use Rattle.wh_state.specs.State.{TaskKind, DynamicKind}
use Rattle.wh_state.specs.State.{Rows, Version, Table, Stream, Object, last_rows}
use Rattle.wh_state.specs.State.{metadata_columns, at_id}
use Rattle.wh_state.specs.State.{TableKind, StreamKind, table_in, stream_in, columns_in}
use Rattle.wh_state.specs.Stored.{StoredTable, StoredKind, StoredObject, Stored}
use Rattle.wh_state.specs.Stored.{table_meant, object_meant, kind_meant}
use Rattle.wh_state.proofs.AllLaws.{all_map, all_append, all_filter, all_at}
use Rattle.wh_state.proofs.FoundLaws.{FoundAt}
use Rattle.wh_state.proofs.MeaningLaws.{at_id_meant, table_at_meant}
use Rattle.wh_state.proofs.AppliesLaws.{IsFirmTable}
use Rattle.wh_state.proofs.FirmLaws.{IsFirmKind, IsFirmObject, IsSourceOf, HasSource}
use Rattle.wh_machine.specs.Outcome.{Machine}
use Rattle.wh_machine.specs.Queries.{table_bag}
use Rattle.wh_machine.specs.Reading.{objects_seen, start_in, kind_rows, object_rows, rows_read}
use Rattle.wh_machine.proofs.GotLaws.{entries_hold}
use Rattle.wh_machine.proofs.StageLaws.{rows_all}
use Rattle.wh_machine.proofs.WorksLaws.{IsReached, objects_meant}
use Rattle.wh_machine.proofs.BagRows.{all_none}
use Rattle.wh_machine.proofs.BagRows.{AllRows, all_bag_of}
use Rattle.wh_machine.proofs.ValueTypes.{FitsTypes, types_of, row_of_columns, fits_append}
use Rattle.wh_machine.proofs.SeenRows.{none_seen}
use Rattle.wh_machine.proofs.SeenRows.{Fit, RowsFitIn, versions_fit, VersionRowsFit, last_fits}
use Rattle.wh_machine.proofs.SeenRows.{SeesTable, seen_fits}
use Rattle.wh_state.specs.Objects.{table_at}
use Rattle.wh_state.specs.Objects.{as_table}

-- ---- changes of rows

abbrev ChangeFits : List Column → RowChange → Type 0
ChangeFits columns r = Fit columns r.row

one_net : (columns : List Column) (n : ℕ) (old new : Option Row) → ((x : Row) → old ≡ Some x → Fit columns x)
    → ((x : Row) → new ≡ Some x → Fit columns x) → AllByRecursion (ChangeFits columns) (net_change n old new)
one_net columns n None None h k = tt
one_net columns n None (Some new) h k = (k new refl, tt)
one_net columns n (Some old) None h k = (h old refl, tt)
one_net columns n (Some old) (Some new) h k = by_test (eq_by_cmp row_cmp old new)
  where
    by_test : (b : Bool)
        → AllByRecursion (ChangeFits columns) (cond b [] (deleted n true old ∷ inserted n true new ∷ []))
    by_test true = tt
    by_test false = (h old refl, (k new refl, tt))

nets_fit : (columns : List Column) (old new : Rows) → RowsFitIn columns old → RowsFitIn columns new → (ns : List ℕ)
    → AllByRecursion (ChangeFits columns) (flat_map (λ n. net_change n (get old n) (get new n)) ns)
nets_fit columns old new h k [] = tt
nets_fit columns old new h k (n ∷ ns) =
    all_append (ChangeFits columns) (net_change n (get old n) (get new n))
    (flat_map (λ n. net_change n (get old n) (get new n)) ns)
    (one_net columns n (get old n) (get new n) (h n) (k n)) (nets_fit columns old new h k ns)

net_fits : (columns : List Column) (old new : Rows) → RowsFitIn columns old → RowsFitIn columns new
    → AllByRecursion (ChangeFits columns) (net old new)
unfolding net
net_fits columns old new h k = nets_fit columns old new h k (numbers_in_either old new)

inserted_fit : (columns : List Column) (es : List (ℕ × Row)) → AllByRecursion (λ e. Fit columns e.1) es
    → AllByRecursion (ChangeFits columns) (map (λ e. inserted e.0 false e.1) es)
inserted_fit columns [] h = tt
inserted_fit columns (e ∷ es) h = (h.0, inserted_fit columns es h.1)

appended_fit : (columns : List Column) (earlier : List Rows) (from to : ℕ) (versions : List Version)
    → AllByRecursion (VersionRowsFit columns) versions
    → AllByRecursion (ChangeFits columns) (appended_from earlier from to versions)
appended_fit columns earlier from to [] h = tt
appended_fit columns earlier from to (v ∷ vs) h =
    by_test (is_between from to v.stamp) (appended_fit columns (v.content.rows ∷ earlier) from to vs h.1)
  where
    first : AllByRecursion (ChangeFits columns) (map (λ e. inserted e.0 false e.1) (first_here earlier v.content.rows))
    first = inserted_fit columns (first_here earlier v.content.rows)
        (all_filter (λ e. Fit columns e.1) (λ e. not (is_in_one e.0 earlier)) (entries v.content.rows)
        (entries_hold (λ q x. Fit columns x) v.content.rows h.0))

    by_test : (b : Bool) → AllByRecursion (ChangeFits columns) (appended_from (v.content.rows ∷ earlier) from to vs)
        → AllByRecursion (ChangeFits columns)
        (cond b (map (λ e. inserted e.0 false e.1) (first_here earlier v.content.rows)) []
        ++ appended_from (v.content.rows ∷ earlier) from to vs)
    by_test true rest =
        all_append (ChangeFits columns) (map (λ e. inserted e.0 false e.1) (first_here earlier v.content.rows))
        (appended_from (v.content.rows ∷ earlier) from to vs) first rest
    by_test false rest = rest

at_fits : (columns : List Column) (t : Table) (time : ℕ) → AllByRecursion (VersionRowsFit columns) t.versions
    → RowsFitIn columns (rows_at t time)
at_fits columns t time h =
    last_fits columns (filter (λ v. nat_le v.data_timestamp time) t.versions)
    (all_filter (VersionRowsFit columns) (λ v. nat_le v.data_timestamp time) t.versions h)

between_fits : (columns : List Column) (mode : Bool) (t : Table) (from to : ℕ)
    → AllByRecursion (VersionRowsFit columns) t.versions
    → AllByRecursion (ChangeFits columns) (records_between mode t from to)
unfolding appended
between_fits columns false t from to h =
    net_fits columns (rows_at t from) (rows_at t to) (at_fits columns t from h) (at_fits columns t to h)
between_fits columns true t from to h = appended_fit columns [] from to t.versions h

changes_fit : (columns : List Column) (t : Table) (s : Stream) (to : ℕ) →
    AllByRecursion (VersionRowsFit columns) t.versions
    → AllByRecursion (ChangeFits columns) (shown t s to)
unfolding shown
changes_fit columns t s to h = by_test (nat_le to s.offset)
  where
    by_test : (b : Bool)
        → AllByRecursion (ChangeFits columns) (cond b [] (records_between s.is_append_only t s.offset to))
    by_test true = tt
    by_test false = between_fits columns s.is_append_only t s.offset to h

-- with three columns behind
shown_rows_fit : (columns : List Column) (source : ℕ) (rs : List RowChange) → AllByRecursion (ChangeFits columns) rs
    → AllByRecursion (FitsTypes (types_of (columns ++ metadata_columns))) (map (shown_row source) rs)
shown_rows_fit columns source [] h = tt
shown_rows_fit columns source (r ∷ rs) h = (
  subst (λ (ts : List (Option ColumnType)). FitsTypes ts (shown_row source r))
      (sym (map-append (λ (c : Column). Some c.column_type) columns metadata_columns))
      (fits_append (types_of columns) (types_of metadata_columns) r.row _ (row_of_columns columns r.row h.0)
      (refl, (refl, (refl, tt)))),
  shown_rows_fit columns source rs h.1,
)

-- the rows of a stream of a file
pub shown_fits : (s : Stored) (stream : Stream) (to : ℕ) → AllByRecursion IsFirmObject s.objects
    → FoundAt (IsSourceOf stream) s.objects stream.source
    → AllByRecursion (FitsTypes (types_of stream.columns)) (rows_shown (map object_meant s.objects) stream to)
shown_fits s stream to firm source =
    subst (λ (found : Option Table). AllByRecursion (FitsTypes (types_of stream.columns)) (rows_on found stream to))
    (sym (table_at_meant s.objects stream.source)) (by_found (at_id s.objects stream.source) refl source)
  where
    of_table : (t : StoredTable) → IsFirmTable t → stream.columns ≡ t.columns ++ metadata_columns
        → AllByRecursion (FitsTypes (types_of stream.columns)) (rows_on (Some (table_meant t)) stream to)
    of_table t firm is =
        subst (λ (columns : List Column). AllByRecursion (FitsTypes (types_of columns))
        (rows_on (Some (table_meant t)) stream to)) (sym is)
        (shown_rows_fit t.columns stream.source (shown (table_meant t) stream to)
        (changes_fit t.columns (table_meant t) stream to (versions_fit t.columns t.versions firm.fits)))

    by_kind : (k : StoredKind) → IsFirmKind k
        → IsSomeAnd (table_in k) (λ t. stream.columns ≡ t.columns ++ metadata_columns)
        → AllByRecursion (FitsTypes (types_of stream.columns)) (rows_on (option_map table_meant (table_in k)) stream to)
    by_kind (StreamKind other) firm is = absurd is
    by_kind (TaskKind t) firm is = absurd is
    by_kind (TableKind t) firm is = of_table t firm is
    by_kind (DynamicKind d t) firm is = of_table t firm is

    by_found : (found : Option StoredObject) → at_id s.objects stream.source ≡ found
        → IsSomeAnd found (IsSourceOf stream)
        → AllByRecursion (FitsTypes (types_of stream.columns))
        (rows_on (option_map table_meant (option_and_then as_table found)) stream to)
    by_found None none source = absurd source
    by_found (Some o) there source = by_kind o.kind (all_at IsFirmObject s.objects stream.source o firm there) source

-- ---- objects

values_fit : (columns : List Column) (rows : Rows) → RowsFitIn columns rows
    → AllRows (FitsTypes (types_of columns)) (bag_of (values rows))
values_fit columns rows h =
    all_bag_of (FitsTypes (types_of columns)) (values rows)
    (all_map (Fit columns) (FitsTypes (types_of columns)) (row_of_columns columns) (values rows)
    (rows_all columns (entries rows) (entries_hold (λ q x. Fit columns x) rows h)))

-- of a file that a machine was reached from
pub read_fits : (s : Stored) (m : Machine) (session id : ℕ) (o : StoredObject) → IsReached s m
    → at_id s.objects id ≡ Some o → AllRows (FitsTypes (types_of (columns_in o.kind))) (rows_read m session id)
read_fits s m session id o reached there =
    subst (λ (found : Option Object). AllRows (FitsTypes (types_of (columns_in o.kind)))
    (object_rows m.state.objects (objects_seen m session) (start_in m session) id found)) (sym now)
    (by_kind o.kind refl)
  where
    now : at_id m.state.objects id ≡ Some (object_meant o)
    now = ap (λ (objects : List Object). at_id objects id) (objects_meant s m reached)
        ∙ at_id_meant s.objects id ∙ ap (option_map object_meant) there

    of_table : (t : StoredTable) → SeesTable m session id t.columns
        → AllRows (FitsTypes (types_of t.columns)) (table_bag (table_at (objects_seen m session) id))
    of_table t seen =
        subst (λ (found : Option Table). AllRows (FitsTypes (types_of t.columns)) (table_bag found)) (sym seen.there)
        (values_fit t.columns (last_rows seen.table) seen.rows)

    by_kind : (k : StoredKind) → o.kind ≡ k
        → AllRows (FitsTypes (types_of (columns_in k)))
        (kind_rows m.state.objects (objects_seen m session) (start_in m session) id (kind_meant k))
    by_kind (TableKind t) is = of_table t (seen_fits s m session id o t reached there (ap table_in is))
    by_kind (DynamicKind d t) is = of_table t (seen_fits s m session id o t reached there (ap table_in is))
    by_kind (TaskKind task) is =
        let none : table_at (objects_seen m session) id ≡ None =
        none_seen m session id (object_meant o) now (ap (λ k. table_in (kind_meant k)) is) in
        subst (λ (found : Option Table). AllRows (FitsTypes []) (table_bag found)) (sym none) (all_none (FitsTypes []))
    by_kind (StreamKind stream) is =
        let source : FoundAt (IsSourceOf stream) s.objects stream.source =
        subst (λ (k : StoredKind). IfSome (stream_in k) (λ u. FoundAt (IsSourceOf u) s.objects u.source)) is
        (all_at (HasSource s.objects) s.objects id o reached.firm.streams there) in
        all_bag_of (FitsTypes (types_of stream.columns)) (rows_shown m.state.objects stream (start_in m session))
        (subst (λ (objects : List Object). AllByRecursion (FitsTypes (types_of stream.columns))
        (rows_shown objects stream (start_in m session))) (sym (objects_meant s m reached))
        (shown_fits s stream (start_in m session) reached.firm.tables source))
