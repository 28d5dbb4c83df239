-- The rows of a dynamic table's query fit its columns, for each moment.
--     ids_sourced        the sources of its query are what it is numbered to read
--     evaluated_fits     its rows
use Rattle.std.proofs.Common.{◌≡◌, ℕ, zero, suc, Bool, true, false, cond, List, [], ◌∷◌, ◌++◌, map, Option, Some}
use Rattle.std.proofs.Common.{None}
use Rattle.std.proofs.Common.{option_map, refl, sym, ap, subst, ◌∙◌, arith}
use Rattle.std.specs.Prelude.{slice_get, bytes_eq, unwrap_or}
use Rattle.std.specs.List.{AllByRecursion}
use Rattle.std.specs.Option.{IsSomeAnd, option_and_then, option_map_or}
use Rattle.std.specs.FinMap.{entries, values}
use Rattle.wh_value.specs.Value.{Row}
use Rattle.wh_value.specs.Column.{Column}
use Rattle.wh_meaning.specs.Bag.{Bag, no_rows, bag_of}
use Rattle.wh_meaning.specs.Query.{eval, source_in}
use Rattle.wh_naming.specs.Findings.{Name}
use Rattle.wh_naming.specs.Scope.{Named, named}
use Rattle.wh_naming.specs.Select.{BoundQuery, bound_query, column_of}
use Rattle.wh_ddl_naming.specs.Names.{query_names}
use Rattle.wh_ddl_naming.proofs.SourceLaws.{id_in, query_sourced}
use Rattle.wh_state.specs.State.{TableKind, StreamKind, TaskKind, DynamicKind, Object, Rows, table_in}
use Rattle.wh_state.specs.State.{at_id, columns_in, columns_at, rows_at}
use Rattle.wh_state.specs.Dynamic.{Source, DynamicQuery, Dynamic, id_named, ids_read}
use Rattle.wh_state.specs.Objects.{as_table}
use Rattle.wh_state.specs.Bound.{named_as, names_among, query_bound}
use Rattle.wh_state.specs.Moments.{bag_at, instance_at, evaluated_at}
use Rattle.wh_state.specs.Stored.{StoredTable, StoredKind, StoredObject, version_meant, table_meant, kind_meant}
use Rattle.wh_state.specs.Stored.{object_meant}
use Rattle.wh_state.proofs.AllLaws.{all_map, all_filter, all_at}
use Rattle.wh_state.proofs.FoundLaws.{FoundAt}
use Rattle.wh_state.proofs.MeaningLaws.{at_id_meant, names_meant}
use Rattle.wh_state.proofs.AppliesLaws.{IsFirmTable}
use Rattle.wh_state.proofs.FirmLaws.{IsFirmKind, IsFirmObject}
use Rattle.wh_state.proofs.DynamicFirm.{IsThere, IsFirmDynamic}
use Rattle.wh_machine.proofs.BagRows.{AllRows, GivesAll, all_none, all_bag_of}
use Rattle.wh_machine.proofs.ValueTypes.{FitsTypes, types_of, row_of_columns}
use Rattle.wh_machine.proofs.GotLaws.{entries_hold}
use Rattle.wh_machine.proofs.PassedLaws.{nothing_fails}
use Rattle.wh_machine.proofs.ShownLaws.{output_types}
use Rattle.wh_machine.proofs.BoundLaws.{column_rows, InstanceFits, IsGoodQuery, query_good}
use Rattle.wh_machine.proofs.SeenRows.{Fit, RowsFitIn, versions_fit, last_fits}

-- ---- the objects that it is numbered to read

abbrev AreThere : List StoredObject → List Source → Type 0
AreThere objects sources = AllByRecursion (λ s. FoundAt IsThere objects s.id) sources

id_among : (objects : List StoredObject) (sources : List Source) (name : Name) → AreThere objects sources
    → id_in (names_among objects sources) name ≡ id_named sources name
id_among objects [] name there = refl
id_among objects (s ∷ ss) name there = by_found (at_id objects s.id) there.0 (id_among objects ss name there.1)
  where
    by_name : (o : StoredObject) (same : Bool) → id_in (names_among objects ss) name ≡ id_named ss name
        → option_map_or (λ (n : Named). n.id) (cond same (Some (named_as s o)) (named (names_among objects ss) name)) 0
        ≡ cond same s.id (id_named ss name)
    by_name o true rest = refl
    by_name o false rest = rest

    by_found : (found : Option StoredObject) → IsSomeAnd found IsThere
        → id_in (names_among objects ss) name ≡ id_named ss name
        → id_in (option_map_or (λ o. named_as s o ∷ []) found [] ++ names_among objects ss) name
        ≡ cond (bytes_eq s.name name) s.id (id_named ss name)
    by_found None is rest = absurd is
    by_found (Some o) is rest = by_name o (bytes_eq s.name name) rest

-- the sources of its query, in the order of the text
pub ids_sourced : (objects : List StoredObject) (q : DynamicQuery) → AreThere objects q.sources
    → (query_bound objects q).sources ≡ ids_read q
unfolding ids_read
ids_sourced objects q there =
    (query_sourced (names_among objects q.sources) q.tree 0).ids ∙ all_ids (query_names q.tree)
  where
    all_ids : (written : List Name)
        → map (id_in (names_among objects q.sources)) written ≡ map (id_named q.sources) written
    all_ids [] = refl
    all_ids (name ∷ others) =
        let here : id_in (names_among objects q.sources) name ≡ id_named q.sources name =
        id_among objects q.sources name there in
        rw (here, all_ids others) refl

columns_among : (objects : List StoredObject) (sources : List Source) (name : Name) (object : Named)
    → named (names_among objects sources) name ≡ Some object → columns_at objects object.id ≡ object.columns
columns_among objects [] name object is = absurd cc
columns_among objects (s ∷ ss) name object is =
    by_found (at_id objects s.id) refl is (columns_among objects ss name object)
  where
    here : (o : StoredObject) → at_id objects s.id ≡ Some o → named_as s o ≡ object
        → columns_at objects object.id ≡ object.columns
    here o there same =
        ap (λ (n : Named). columns_at objects n.id) (sym same)
        ∙ ap (λ (found : Option StoredObject). option_map_or (λ o. columns_in o.kind) found []) there
        ∙ ap (λ (n : Named). n.columns) same

    by_name : (o : StoredObject) (same : Bool) → at_id objects s.id ≡ Some o
        → cond same (Some (named_as s o)) (named (names_among objects ss) name) ≡ Some object
        → (named (names_among objects ss) name ≡ Some object → columns_at objects object.id ≡ object.columns)
        → columns_at objects object.id ≡ object.columns
    by_name o true there is rest = let same : named_as s o ≡ object = cc in here o there same
    by_name o false there is rest = rest is

    by_found : (found : Option StoredObject) → at_id objects s.id ≡ found
        → named (option_map_or (λ o. named_as s o ∷ []) found [] ++ names_among objects ss) name ≡ Some object
        → (named (names_among objects ss) name ≡ Some object → columns_at objects object.id ≡ object.columns)
        → columns_at objects object.id ≡ object.columns
    by_found None none is rest = rest is
    by_found (Some o) there is rest = by_name o (bytes_eq s.name name) there is rest

-- ---- the rows of a source

bag_fits : (columns : List Column) (rows : Rows) → RowsFitIn columns rows
    → AllRows (FitsTypes (types_of columns)) (bag_of (values rows))
bag_fits columns rows h =
    all_bag_of (FitsTypes (types_of columns)) (values rows)
    (of_entries (entries rows) (entries_hold (λ q x. Fit columns x) rows h))
  where
    of_entries : (es : List (ℕ × Row)) → AllByRecursion (λ e. Fit columns e.1) es
        → AllByRecursion (FitsTypes (types_of columns)) (map (λ e. e.1) es)
    of_entries [] h = tt
    of_entries (e ∷ es) h = (row_of_columns columns e.1 h.0, of_entries es h.1)

-- of the version for a moment
moment_fits : (t : StoredTable) (moment : ℕ) → IsFirmTable t → RowsFitIn t.columns (rows_at (table_meant t) moment)
moment_fits t moment firm =
    last_fits t.columns _ (all_filter _ _ (map version_meant t.versions) (versions_fit t.columns t.versions firm.fits))

-- what an id's rows are like: there are none of no object
abbrev IsRowOf : List StoredObject → ℕ → Row → Type 0
IsRowOf objects id row = (id ≡ 0 → ⊥) × FitsTypes (types_of (columns_at objects id)) row

source_fits : (objects : List StoredObject) (moment id : ℕ) → AllByRecursion IsFirmObject objects
    → AllRows (IsRowOf objects id) (bag_at (map object_meant objects) moment id)
source_fits objects moment zero firm = all_none (IsRowOf objects 0)
source_fits objects moment (suc place) firm =
    subst (λ (found : Option Object). AllRows (IsRowOf objects id)
    (option_map_or (λ t. bag_of (values (rows_at t moment))) (option_and_then as_table found) no_rows))
    (sym (at_id_meant objects id)) (by_found (at_id objects id) refl)
  where
    id : ℕ
    id = suc place

    there : (t : StoredTable) → columns_at objects id ≡ t.columns → IsFirmTable t
        → AllRows (IsRowOf objects id) (bag_of (values (rows_at (table_meant t) moment)))
    there t columns firm =
        all_map (λ e. FitsTypes (types_of t.columns) e.0) (λ e. IsRowOf objects id e.0)
        (λ e fits. (
          λ none. absurd (omega (arith, none)),
          subst (λ (columns : List Column). FitsTypes (types_of columns) e.0) (sym columns) fits,
        )) _ (bag_fits t.columns (rows_at (table_meant t) moment) (moment_fits t moment firm))

    by_kind : (k : StoredKind) → columns_at objects id ≡ columns_in k → IsFirmKind k
        → AllRows (IsRowOf objects id)
        (option_map_or (λ t. bag_of (values (rows_at t moment))) (table_in (kind_meant k)) no_rows)
    by_kind (TableKind t) columns firm = there t columns firm
    by_kind (StreamKind s) columns firm = all_none (IsRowOf objects id)
    by_kind (TaskKind t) columns firm = all_none (IsRowOf objects id)
    by_kind (DynamicKind d t) columns firm = there t columns firm

    by_found : (found : Option StoredObject) → at_id objects id ≡ found
        → AllRows (IsRowOf objects id) (option_map_or (λ t. bag_of (values (rows_at t moment)))
        (option_and_then as_table (option_map object_meant found)) no_rows)
    by_found None none = all_none (IsRowOf objects id)
    by_found (Some o) there = by_kind o.kind
        (ap (λ (found : Option StoredObject). option_map_or (λ o. columns_in o.kind) found []) there)
        (all_at IsFirmObject objects id o firm there)

-- ---- its query

module _ (objects : List StoredObject) (moment : ℕ) (d : Dynamic) (columns : List Column)
    (tables : AllByRecursion IsFirmObject objects) (firm : IsFirmDynamic objects d columns) where
  abbrev names : List Named
  names = names_among objects d.query.sources

  abbrev bound : BoundQuery
  bound = bound_query d.query.tree names 0

  abbrev Any : ℕ → Type 0
  Any id = Unit {0}

  no_row : (row : Row) → IsRowOf objects 0 row → ⊥
  no_row row is = is.0 refl

  any_named : (name : Name) (object : Named) → named names name ≡ Some object → Any object.id
  any_named name object is = tt

  row_fits_of : (name : Name) (object : Named) → named names name ≡ Some object → (row : Row)
      → IsRowOf objects object.id row → FitsTypes (types_of object.columns) row
  row_fits_of name object is row row_is =
      subst (λ (columns : List Column). FitsTypes (types_of columns) row)
      (columns_among objects d.query.sources name object is) row_is.1

  mapped_get : (ids : List ℕ) (k id : ℕ) → slice_get ids k ≡ Some id
      → slice_get (instance_at (map object_meant objects) moment ids) k
      ≡ Some (bag_at (map object_meant objects) moment id)
  mapped_get [] k id is = absurd cc
  mapped_get (x ∷ ids) zero id is = ap (option_map (bag_at (map object_meant objects) moment)) is
  mapped_get (x ∷ ids) (suc k) id is = mapped_get ids k id is

  instance_fits : (ids : List ℕ)
      → InstanceFits names Any (IsRowOf objects) tt no_row any_named row_fits_of 0 ids
      (instance_at (map object_meant objects) moment ids)
  instance_fits ids k place id at is =
      let same : place ≡ k = omega arith in
      let bag : source_in (instance_at (map object_meant objects) moment ids) place
      ≡ bag_at (map object_meant objects) moment id =
      ap (λ (n : ℕ). source_in (instance_at (map object_meant objects) moment ids) n) same
      ∙ ap (λ (found : Option Bag). unwrap_or found no_rows) (mapped_get ids k id is) in
      subst (AllRows (IsRowOf objects id)) (sym bag) (source_fits objects moment id tables)

  good : IsGoodQuery names Any (IsRowOf objects) tt no_row any_named row_fits_of 0 bound
  good = query_good names Any (IsRowOf objects) tt no_row any_named row_fits_of d.query.tree firm.written.is 0

  well : bound.findings.is_mistyped ≡ false
  well = (nothing_fails _ firm.bound.right).is_mistyped

  of_instance : GivesAll (FitsTypes (types_of columns))
      (eval bound.query (instance_at (map object_meant objects) moment (ids_read d.query)))
  of_instance b is =
      subst (λ (columns : List Column). AllRows (FitsTypes (types_of columns)) b) firm.bound.outputs
      (all_map (λ e. FitsTypes (output_types bound.outputs) e.0)
      (λ e. FitsTypes (types_of (map column_of bound.outputs)) e.0) (λ e h. column_rows bound.outputs e.0 h) _
      (good.rows well (instance_at (map object_meant objects) moment (ids_read d.query))
      (subst (λ (ids : List ℕ). InstanceFits names Any (IsRowOf objects) tt no_row any_named row_fits_of 0 ids
      (instance_at (map object_meant objects) moment (ids_read d.query))) (sym (ids_sourced objects d.query
      firm.bound.sources)) (instance_fits (ids_read d.query))) b is))

  pub evaluated_fits : GivesAll (FitsTypes (types_of columns)) (evaluated_at (map object_meant objects) moment d)
  unfolding evaluated_at
  evaluated_fits =
      subst (λ (names : List Named). GivesAll (FitsTypes (types_of columns))
      (eval (bound_query d.query.tree names 0).query
      (instance_at (map object_meant objects) moment (ids_read d.query)))) (sym (names_meant objects d.query.sources))
      of_instance
