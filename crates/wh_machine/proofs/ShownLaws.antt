-- The types of the columns that items give.
--     ShownUnder            the scalars of items have the types of their columns
--     shown_under           so do those of all items
--     core_rows             the rows of a core
use Rattle.std.proofs.Common.{◌≡◌, ℕ, zero, suc, ◌+◌, Bool, true, false, cond, List, [], ◌∷◌}
use Rattle.std.proofs.Common.{◌++◌, map, length, Option, Some, None, refl, sym, ap, subst, ◌∙◌, arith}
use Rattle.std.specs.Prelude.{slice_get, bytes_eq}
use Rattle.std.specs.List.{AllByRecursion}
use Rattle.std.proofs.lemmas.List.{map-append}
use Rattle.wh_value.specs.Column as table
use Rattle.wh_value.specs.Column.{ColumnType, NumberType, VarcharType}
use Rattle.wh_ast.specs.declared.query.Item.{Item}
use Rattle.wh_ast.specs.declared.query.Item.TheVariants as items
use Rattle.wh_meaning.specs.Scalar.{Scalar}
use Rattle.wh_meaning.specs.Query as meaning
use Rattle.wh_meaning.specs.Query.{Instance, eval, Project, Group}
use Rattle.wh_naming.specs.Findings.{Name}
use Rattle.wh_naming.specs.Scope.{Entry, width, Span, spans_of, only, columns_of_entry}
use Rattle.wh_naming.specs.Typing.{Typed, typed}
use Rattle.wh_naming.specs.Select.{Output, Shown, places_from, output_of, with_columns, all_columns, with_span}
use Rattle.wh_naming.specs.Select.{output_name, with_item, item_context, shown_with, all_shown}
use Rattle.wh_naming.specs.Select.{projected, regrouped_all}
use Rattle.wh_state.proofs.AllLaws.{all_map}
use Rattle.wh_machine.proofs.BagRows.{GivesAll, AllRows}
use Rattle.wh_machine.proofs.ValueTypes.{FitsTypes, type_or, type_at, head_type, types_of}
use Rattle.wh_machine.proofs.TypedLaws.{Under, entry_types, typed_under, width_is, number_beyond, get_behind}
use Rattle.wh_machine.proofs.TypedLaws.{types_length}
use Rattle.wh_machine.proofs.QueryRows.{number_types, rows_project, rows_group}
use Rattle.wh_machine.proofs.GroupedLaws.{AllUnder, all_under_fits, all_under_append, all_under_through}
use Rattle.wh_machine.proofs.GroupedLaws.{all_regrouped}

abbrev pub output_types : List Output → List (Option ColumnType)
output_types outputs = map (λ o. o.type_of) outputs

abbrev pub heads : List Entry → List Scalar → List (Option ColumnType)
heads entries scalars = map (head_type (type_at (entry_types entries))) scalars

abbrev pub ShownUnder : List Entry → Shown → Type 0
ShownUnder entries shown = AllUnder (heads entries shown.scalars) (output_types shown.outputs)

-- columns whose types stand among others from a place on
abbrev StandFrom : List (Option ColumnType) → ℕ → List table.Column → Type 0
StandFrom types from columns = (k place : ℕ) (t : Option ColumnType) → place ≡ from + k
    → slice_get (types_of columns) k ≡ Some t → slice_get types place ≡ Some t

places_under : (entries : List Entry) (from : ℕ) (columns : List table.Column)
    → StandFrom (entry_types entries) from columns
    → AllUnder (heads entries (places_from from columns)) (output_types (map output_of columns))
places_under entries from [] stand = tt
places_under entries from (c ∷ cs) stand = (
  subst (λ (t : Option ColumnType). Under t (Some c.column_type))
      (sym (ap type_or (stand 0 from (Some c.column_type) (omega arith) refl))) refl,
  places_under entries (suc from) cs (λ k place t is at. stand (suc k) place t (omega arith) at),
)

with_columns_under : (entries : List Entry) (shown : Shown) (from : ℕ) (columns : List table.Column)
    → StandFrom (entry_types entries) from columns → ShownUnder entries shown
    → ShownUnder entries (with_columns shown from columns)
with_columns_under entries shown from columns stand under =
    let scalars = map-append (head_type (type_at (entry_types entries))) shown.scalars (places_from from columns) in
    let outputs = map-append (λ (o : Output). o.type_of) shown.outputs (map output_of columns) in
    subst (λ (ts : List (Option ColumnType)). AllUnder ts (output_types (shown.outputs ++ map output_of columns)))
    (sym scalars)
    (subst (AllUnder (heads entries shown.scalars ++ heads entries (places_from from columns))) (sym outputs)
    (all_under_append (heads entries shown.scalars) (output_types shown.outputs)
    (heads entries (places_from from columns)) (output_types (map output_of columns)) under
    (places_under entries from columns stand)))

with_item_under : (entries : List Entry) (shown : Shown) (name : Name) (x : Typed)
    → Under (head_type (type_at (entry_types entries)) x.scalar) x.type_of → ShownUnder entries shown
    → ShownUnder entries (with_item shown name x)
with_item_under entries shown name x one under =
    let scalars = map-append (head_type (type_at (entry_types entries))) shown.scalars (x.scalar ∷ []) in
    let outputs = map-append (λ (o : Output). o.type_of) shown.outputs
    ((record { name = name; type_of = x.type_of }) ∷ []) in
    subst (λ (ts : List (Option ColumnType)). AllUnder ts
    (output_types (shown.outputs ++ (record { name = name; type_of = x.type_of }) ∷ []))) (sym scalars)
    (subst (AllUnder (heads entries shown.scalars ++ heads entries (x.scalar ∷ []))) (sym outputs)
    (all_under_append (heads entries shown.scalars) (output_types shown.outputs)
    (heads entries (x.scalar ∷ [])) (x.type_of ∷ []) under (one, tt)))

-- ---- the columns of an entry

abbrev SpanStands : List (Option ColumnType) → ℕ → Span → Type 0
SpanStands types from s = (k0 : ℕ) × ((s.from ≡ from + k0) × StandFrom types k0 s.columns)

front_get : (ts us : List (Option ColumnType)) (k : ℕ) (t : Option ColumnType) → slice_get ts k ≡ Some t
    → slice_get (ts ++ us) k ≡ Some t
front_get [] us k t is = absurd cc
front_get (x ∷ ts) us zero t is = is
front_get (x ∷ ts) us (suc k) t is = front_get ts us k t is

spans_stand : (name : Name) (from : ℕ) (entries : List Entry)
    → AllByRecursion (SpanStands (entry_types entries) from) (spans_of name from entries)
spans_stand name from [] = tt
spans_stand name from (e ∷ es) =
    by_name (bytes_eq e.name name)
    (all_map (SpanStands (entry_types es) (from + length e.columns)) (SpanStands (entry_types (e ∷ es)) from) behind
    (spans_of name (from + length e.columns) es) (spans_stand name (from + length e.columns) es))
  where
    joined : entry_types (e ∷ es) ≡ types_of e.columns ++ entry_types es
    joined = map-append (λ (c : table.Column). Some c.column_type) e.columns (all_columns es)

    behind : (s : Span) → SpanStands (entry_types es) (from + length e.columns) s →
        SpanStands (entry_types (e ∷ es)) from s
    behind s at = (
      length e.columns + at.0,
      (
        omega (arith, at.1.0),
        λ k place t is there.
            ap (λ (ts : List (Option ColumnType)). slice_get ts place) joined
            ∙ get_behind (types_of e.columns) (entry_types es) place (at.0 + k)
            (omega (arith, is, types_length e.columns))
            ∙ at.1.1 k (at.0 + k) t refl there,
      ),
    )

    here : SpanStands (entry_types (e ∷ es)) from (record { from = from; columns = e.columns })
    here = (
      0,
      (
        omega arith,
        λ k place t is there.
            let same : place ≡ k = omega arith in
            ap (λ (ts : List (Option ColumnType)). slice_get ts place) joined
            ∙ ap (slice_get (types_of e.columns ++ entry_types es)) same
            ∙ front_get (types_of e.columns) (entry_types es) k t there,
      ),
    )

    by_name : (same : Bool)
        → AllByRecursion (SpanStands (entry_types (e ∷ es)) from) (spans_of name (from + length e.columns) es)
        → AllByRecursion (SpanStands (entry_types (e ∷ es)) from)
        (cond same ((record { from = from; columns = e.columns }) ∷ []) []
        ++ spans_of name (from + length e.columns) es)
    by_name true rest = (here, rest)
    by_name false rest = rest

span_stands : (name : Name) (entries : List Entry) (s : Span) → columns_of_entry name entries ≡ Some s
    → StandFrom (entry_types entries) s.from s.columns
unfolding columns_of_entry
span_stands name entries s is = of_only (spans_of name 0 entries) is (spans_stand name 0 entries)
  where
    of_only : (ss : List Span) → only ss ≡ Some s → AllByRecursion (SpanStands (entry_types entries) 0) ss
        → StandFrom (entry_types entries) s.from s.columns
    of_only [] is all = absurd cc
    of_only (q ∷ []) is all =
        let same : q ≡ s = cc in
        let at : SpanStands (entry_types entries) 0 s = subst (SpanStands (entry_types entries) 0) same all.0 in
        λ k place t place_is there. at.1.1 k place t (omega (arith, place_is, at.1.0)) there
    of_only (q ∷ r ∷ qs) is all = absurd cc

-- ---- items

item_under : (entries : List Entry) (shown : Shown) (item : Item) → ShownUnder entries shown
    → ShownUnder entries (shown_with entries shown item)
item_under entries shown items.Star under =
    with_columns_under entries shown 0 (all_columns entries)
    (λ k place t is there. let same : place ≡ k = omega arith in ap (slice_get (entry_types entries)) same
    ∙ there) under
item_under entries shown (items.StarOf name) under = by_span (columns_of_entry name entries) refl
  where
    by_span : (found : Option Span) → columns_of_entry name entries ≡ found
        → ShownUnder entries (with_span shown name found)
    by_span None is = under
    by_span (Some s) is = with_columns_under entries shown s.from s.columns (span_stands name entries s is) under
item_under entries shown (items.Expr e alias) under =
    with_item_under entries shown (output_name alias e (suc (length shown.outputs)))
    (typed e (item_context entries) (length shown.calls))
    (typed_under e (item_context entries) (length shown.calls)) under

pub shown_under : (entries : List Entry) (shown : Shown) (found : List Item) → ShownUnder entries shown
    → ShownUnder entries (all_shown entries shown found)
shown_under entries shown [] under = under
shown_under entries shown (item ∷ rest) under =
    shown_under entries (shown_with entries shown item) rest (item_under entries shown item under)

-- ---- a core

pub core_rows : (entries : List Entry) (q : meaning.Query) (groups : Bool) (keys : List Scalar) (shown : Shown)
    (instance : Instance) → ShownUnder entries shown → GivesAll (FitsTypes (entry_types entries)) (eval q instance)
    → GivesAll (FitsTypes (output_types shown.outputs)) (eval (projected groups q keys (width entries) shown) instance)
core_rows entries q false keys shown instance under rows b is =
    let made : AllRows (FitsTypes (heads entries shown.scalars)) b =
    rows_project (entry_types entries) q shown.scalars instance rows b is in
    all_map (λ e. FitsTypes (heads entries shown.scalars) e.0) (λ e. FitsTypes (output_types shown.outputs) e.0)
    (λ e h. all_under_fits (heads entries shown.scalars) (output_types shown.outputs) under e.0 h) _ made
core_rows entries q true keys shown instance under rows b is =
    let beyond : (place k : ℕ) → place ≡ width entries + k → type_at (entry_types entries) place ≡ Some NumberType =
    λ place k at. number_beyond (entry_types entries) place k (omega (arith, at, width_is entries)) in
    let types : ℕ → Option ColumnType = type_at (entry_types entries) in
    let kinds : List (Option ColumnType) = map (head_type types) keys ++ number_types shown.calls in
    let scalars : List Scalar = regrouped_all keys (width entries) shown.scalars in
    let grouped = rows_group (entry_types entries) q keys shown.calls instance rows in
    let made : AllRows (FitsTypes (map (head_type (type_at kinds)) scalars)) b =
    rows_project kinds (Group q keys shown.calls) scalars instance grouped b is in
    let same : AllUnder (map (head_type (type_at kinds)) scalars) (output_types shown.outputs) =
    all_under_through (map (head_type (type_at kinds)) scalars) (heads entries shown.scalars)
    (output_types shown.outputs) (all_regrouped types (width entries) beyond keys shown.calls shown.scalars) under in
    all_map (λ e. FitsTypes (map (head_type (type_at kinds)) scalars) e.0)
    (λ e. FitsTypes (output_types shown.outputs) e.0)
    (λ e h. all_under_fits (map (head_type (type_at kinds)) scalars) (output_types shown.outputs) same e.0 h) _ made
