-- The extents of columns are their least and greatest values, and tell which rows fit.
--     extents_span     each has the least and the greatest value of its column
--     fits_is          the types that were found fit columns exactly where each row does
--     uneven_fit       they are as many as the columns
use Rattle.std.specs.Prelude.{◌≡◌, ℕ, zero, suc, ◌+◌, ◌<◌, ◌≤◌, Bool, true, false, ◌&&◌, List, [], ◌∷◌, ◌++◌}
use Rattle.std.specs.Prelude.{map, length}
use Rattle.std.proofs.Common.{cond, get_or, refl, sym, ap, subst, ◌∙◌, append_assoc, arith}
use Rattle.std.specs.Cmp.{IsStrictWeakOrder}
use Rattle.std.specs.List.{All, Contains, AllByRecursion, list_all}
use Rattle.std.specs.Ordering.{is_lt}
use Rattle.std.proofs.lemmas.List.{append-nil, length-map, get_or-map, map_push}
use Rattle.std.proofs.lemmas.List.Elements.{All-push, All-weaker, All-cons, All-nil, Contains-push}
use Rattle.std.proofs.lemmas.List.Elements.{Contains-append_left, recursion_from_All}
use Rattle.wh_value.specs.Value.{Value, Null, Row, value_cmp}
use Rattle.wh_value.specs.Column.{Column, ColumnType, NumberType, VarcharType, BooleanType}
use Rattle.wh_value.specs.Fits.{fits, row_fits}
use Rattle.wh_part.specs.declared.extent.Types.{Types}
use Rattle.wh_part.specs.Meta.{IsEven, width_of, column, stands_before, IsLeast, IsGreatest}
use Rattle.wh_part.specs.Extent.{Extent, started, absorbed, lesser, greater, types_of, both_types, fits_by}
use Rattle.wh_part.specs.Extent.{row_absorbed, rows_absorbed, extents_of}
use Rattle.wh_part.specs.Outline.{types_in, types_fit, rows_fit}
use Rattle.wh_part.proofs.MetaLemmas.{value_ranks}
use Rattle.wh_part.proofs.SkimLaws.{length-row_absorbed}

-- ---- the best of some values, and one more

pub record IsBest (beats : Value → Value → Bool) (best : Value) (values : List Value) : Type 0 where
  pub held : Contains values best
  pub none : All (λ other. beats other best ≡ false) values

module _ {beats : Value → Value → Bool} (ranks : IsStrictWeakOrder beats) where
  not_itself : (v : Value) → beats v v ≡ false
  not_itself v = by_test (beats v v) refl
    where
      by_test : (b : Bool) → beats v v ≡ b → beats v v ≡ false
      by_test true h = ranks.one_way v v h
      by_test false h = h

  best_one : (v : Value) → IsBest beats v (v ∷ [])
  best_one v = record {
    held = (0, omega arith, refl);
    none = All-cons (λ other. beats other v ≡ false) v [] (not_itself v) (All-nil (λ other. beats other v ≡ false));
  }

  -- what doesn't beat the best doesn't beat what does
  best_more : (best v : Value) (values : List Value) → IsBest beats best values
      → IsBest beats (cond (beats v best) v best) (values ++ v ∷ [])
  best_more best v values is = by_test (beats v best) refl
    where
      by_test : (b : Bool) → beats v best ≡ b → IsBest beats (cond b v best) (values ++ v ∷ [])
      by_test true h = record {
        held = Contains-push values v;
        none = All-push (λ other. beats other v ≡ false) values v
            (All-weaker (λ other. beats other best ≡ false) (λ other. beats other v ≡ false)
            (λ other less. ranks.chain other best v less (ranks.one_way v best h)) values is.none) (not_itself v);
      }
      by_test false h = record {
        held = Contains-append_left values (v ∷ []) best is.held;
        none = All-push (λ other. beats other best ≡ false) values v is.none h;
      }

-- ---- one column

pub record Spans (e : Extent) (values : List Value) : Type 0 where
  pub least : IsBest (stands_before false) e.least values
  pub greatest : IsBest (stands_before true) e.greatest values

spans_one : (v : Value) → Spans (started v) (v ∷ [])
spans_one v = record { least = best_one (value_ranks false) v; greatest = best_one (value_ranks true) v }

spans_more : (e : Extent) (v : Value) (values : List Value) → Spans e values → Spans (absorbed e v) (values ++ v ∷ [])
spans_more e v values is = record {
  least = best_more (value_ranks false) e.least v values is.least;
  greatest = best_more (value_ranks true) e.greatest v values is.greatest;
}

pub least_of : (e : Extent) (values : List Value) → Spans e values → IsLeast e.least values
least_of e values is = record { held = is.least.held; none_less = is.least.none }

pub greatest_of : (e : Extent) (values : List Value) → Spans e values → IsGreatest e.greatest values
greatest_of e values is = record { held = is.greatest.held; none_greater = is.greatest.none }

-- ---- each column

abbrev pub SpanAll : List Extent → List (ℕ × Row) → Type 0
SpanAll extents rows = (place : ℕ) (d : Extent) → place < length extents
    → Spans (get_or extents place d) (column place rows)

at_place : (es : List Extent) (row : Row) (place : ℕ) (d : Extent) → place < length es → length row ≡ length es
    → get_or (row_absorbed es row) place d ≡ absorbed (get_or es place d) (get_or row place Null)
at_place [] row place d within same = absurd (omega arith)
at_place (e ∷ es) [] place d within same = absurd (omega arith)
at_place (e ∷ es) (v ∷ row) zero d within same = refl
at_place (e ∷ es) (v ∷ row) (suc place) d within same = at_place es row place d (omega arith) (omega arith)

row_spans : (es : List Extent) (seen : List (ℕ × Row)) (r : ℕ × Row) → length r.1 ≡ length es → SpanAll es seen
    → SpanAll (row_absorbed es r.1) (seen ++ r ∷ [])
row_spans es seen r same all place d within =
    let inside : place < length es = omega (arith, length-row_absorbed es r.1) in
    subst (λ (e : Extent). Spans e (column place (seen ++ r ∷ []))) (sym (at_place es r.1 place d inside same))
    (subst (λ (vs : List Value). Spans (absorbed (get_or es place d) (get_or r.1 place Null)) vs)
    (sym (map_push (λ (e : ℕ × Row). get_or e.1 place Null) seen r))
    (spans_more (get_or es place d) (get_or r.1 place Null) (column place seen) (all place d inside)))

abbrev AreWide : ℕ → List (ℕ × Row) → Type 0
AreWide width rows = AllByRecursion (λ e. length e.1 ≡ width) rows

rows_span : (rows : List (ℕ × Row)) (es : List Extent) (seen : List (ℕ × Row)) → AreWide (length es) rows
    → SpanAll es seen → SpanAll (rows_absorbed es rows) (seen ++ rows)
rows_span [] es seen wide all = subst (SpanAll es) (sym (append-nil seen)) all
rows_span (r ∷ rows) es seen wide all =
    subst (SpanAll (rows_absorbed es (r ∷ rows))) (append_assoc seen (r ∷ []) rows)
    (rows_span rows (row_absorbed es r.1) (seen ++ r ∷ [])
    (subst (λ (n : ℕ). AreWide n rows) (sym (length-row_absorbed es r.1)) wide.1) (row_spans es seen r wide.0 all))

first_spans : (r : ℕ × Row) → SpanAll (map started r.1) (r ∷ [])
first_spans r place d within =
    subst (λ (e : Extent). Spans e (get_or r.1 place Null ∷ []))
    (sym (get_or-map started r.1 place Null d (omega (arith, length-map r.1 started))))
    (spans_one (get_or r.1 place Null))

length-rows_absorbed : (es : List Extent) (rows : List (ℕ × Row)) → length (rows_absorbed es rows) ≡ length es
length-rows_absorbed es [] = refl
length-rows_absorbed es (r ∷ rows) =
    length-rows_absorbed (row_absorbed es r.1) rows ∙ length-row_absorbed es r.1

wide_rows : (r : ℕ × Row) (rows : List (ℕ × Row)) → IsEven (r ∷ rows) → AreWide (length r.1) rows
wide_rows r rows even = (recursion_from_All (λ e. length e.1 ≡ length r.1) (r ∷ rows) even).1

pub extent_count : (rows : List (ℕ × Row)) → length (extents_of rows) ≡ width_of rows
extent_count [] = refl
extent_count (r ∷ rows) = length-rows_absorbed (map started r.1) rows ∙ length-map r.1 started

pub extents_span : (rows : List (ℕ × Row)) → 0 < length rows → IsEven rows → SpanAll (extents_of rows) rows
extents_span [] some even = absurd (omega arith)
extents_span (r ∷ rows) some even =
    rows_span rows (map started r.1) (r ∷ [])
    (subst (λ (n : ℕ). AreWide n rows) (sym (length-map r.1 started)) (wide_rows r rows even)) (first_spans r)

-- ---- which rows fit

fits_both : (x y : Types) (t : ColumnType) → fits_by (both_types x y) t ≡ (fits_by x t && fits_by y t)
fits_both x y NumberType = refl
fits_both x y VarcharType = refl
fits_both x y BooleanType = refl

fits_one : (v : Value) (t : ColumnType) → fits_by (types_of v) t ≡ fits t v
fits_one v NumberType = refl
fits_one v VarcharType = refl
fits_one v BooleanType = refl

exchanged : (a b x y : Bool) → ((a && b) && (x && y)) ≡ ((a && x) && (b && y))
exchanged false b x y = refl
exchanged true false false y = refl
exchanged true false true y = refl
exchanged true true x y = refl

together : (a b c : Bool) → ((a && b) && c) ≡ (a && (b && c))
together false b c = refl
together true b c = refl

row_fit : (cs : List Column) (es : List Extent) (row : Row) → length row ≡ length es
    → types_fit cs (types_in (row_absorbed es row)) ≡ (types_fit cs (types_in es) && row_fits cs row)
row_fit [] [] [] same = refl
row_fit [] [] (v ∷ row) same = absurd (omega arith)
row_fit [] (e ∷ es) [] same = absurd (omega arith)
row_fit [] (e ∷ es) (v ∷ row) same = refl
row_fit (c ∷ cs) [] [] same = refl
row_fit (c ∷ cs) [] (v ∷ row) same = absurd (omega arith)
row_fit (c ∷ cs) (e ∷ es) [] same = absurd (omega arith)
row_fit (c ∷ cs) (e ∷ es) (v ∷ row) same =
    ap (λ (b : Bool). b && types_fit cs (types_in (row_absorbed es row)))
    (fits_both e.types (types_of v) c.column_type
    ∙ ap (λ (b : Bool). fits_by e.types c.column_type && b) (fits_one v c.column_type))
    ∙ ap (λ (b : Bool). (fits_by e.types c.column_type && fits c.column_type v) && b) (row_fit cs es row (omega arith))
    ∙ exchanged (fits_by e.types c.column_type) (fits c.column_type v) (types_fit cs (types_in es)) (row_fits cs row)

rows_fit_on : (cs : List Column) (rows : List (ℕ × Row)) (es : List Extent) → AreWide (length es) rows
    → types_fit cs (types_in (rows_absorbed es rows)) ≡ (types_fit cs (types_in es) && rows_fit cs rows)
rows_fit_on cs [] es wide = sym (with_true (types_fit cs (types_in es)))
  where
    with_true : (b : Bool) → (b && true) ≡ b
    with_true true = refl
    with_true false = refl
rows_fit_on cs (r ∷ rows) es wide =
    rows_fit_on cs rows (row_absorbed es r.1)
    (subst (λ (n : ℕ). AreWide n rows) (sym (length-row_absorbed es r.1)) wide.1)
    ∙ ap (λ (b : Bool). b && rows_fit cs rows) (row_fit cs es r.1 wide.0)
    ∙ together (types_fit cs (types_in es)) (row_fits cs r.1) (rows_fit cs rows)

pub and_false : (a : Bool) → (a && false) ≡ false
and_false true = refl
and_false false = refl

-- no column without a type, and no type without a column
pub uneven_fit : (cs : List Column) (types : List Types) → (length cs ≡ length types → ⊥) → types_fit cs types ≡ false
uneven_fit [] [] uneven = absurd (uneven refl)
uneven_fit [] (t ∷ ts) uneven = refl
uneven_fit (c ∷ cs) [] uneven = refl
uneven_fit (c ∷ cs) (t ∷ ts) uneven =
    ap (λ (b : Bool). fits_by t c.column_type && b) (uneven_fit cs ts (λ same. uneven (ap suc same)))
    ∙ and_false (fits_by t c.column_type)

first_fits : (cs : List Column) (row : Row) → types_fit cs (types_in (map started row)) ≡ row_fits cs row
first_fits [] [] = refl
first_fits [] (v ∷ row) = refl
first_fits (c ∷ cs) [] = refl
first_fits (c ∷ cs) (v ∷ row) =
    ap (λ (b : Bool). b && types_fit cs (types_in (map started row))) (fits_one v c.column_type)
    ∙ ap (λ (b : Bool). fits c.column_type v && b) (first_fits cs row)

pub fits_is : (cs : List Column) (rows : List (ℕ × Row)) → 0 < length rows → IsEven rows
    → types_fit cs (types_in (extents_of rows)) ≡ rows_fit cs rows
fits_is cs [] some even = absurd (omega arith)
fits_is cs (r ∷ rows) some even =
    rows_fit_on cs rows (map started r.1)
    (subst (λ (n : ℕ). AreWide n rows) (sym (length-map r.1 started)) (wide_rows r rows even))
    ∙ ap (λ (b : Bool). b && rows_fit cs rows) (first_fits cs r.1)
