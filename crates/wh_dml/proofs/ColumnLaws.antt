-- Parts that are the columns of rows, each at its place: what they make of the rows are the rows.
--     columns_over     over rows that have as many columns
use Rattle.std.proofs.Common.{◌≡◌, ◌∙◌, ℕ, Bool, true, List, [], ◌∷◌, length, Some, refl, sym}
use Rattle.std.specs.Prelude.{nat_eq}
use Rattle.std.specs.List.{list_all}
use Rattle.std.proofs.lemmas.Bool.{and_parts, eqb-true}
use Rattle.wh_value.specs.Value.{Row}
use Rattle.wh_meaning.specs.Scalar.{Scalar}
use Rattle.wh_effect.specs.Effect.{rows_over, with_row}
use Rattle.wh_exec.specs.Columns.{are_columns}
use Rattle.wh_exec.proofs.ColumnLaws.{columns_valued}

abbrev are_wide : ℕ → List Row → Bool
are_wide width rows = list_all (λ row. nat_eq (length row) width) rows

pub columns_over : (es : List Scalar) (rows : List Row) (width : ℕ) → are_columns 0 es ≡ true
    → are_wide width rows ≡ true → width ≡ length es → rows_over es rows ≡ Some rows
columns_over es [] width is wide same = refl
columns_over es (row ∷ rows) width is wide same =
    let h = and_parts (nat_eq (length row) width) (are_wide width rows) wide in
    let here = columns_valued es row is (sym (eqb-true (length row) width h.0 ∙ same)) in
    let others = columns_over es rows width is h.1 same in
    λ i. with_row (here i) (others i)
