-- Where the loops over rows and calls stand and end.
--     stopped_at      from the last row to the first: where the walk stops, nothing is left over all rows
--     answered_all    the answers of all calls
use Rattle.std.specs.Prelude.{◌≡◌, ℕ, zero, suc, ◌+◌, ◌-◌, ◌<◌, ◌≤◌, List, [], ◌∷◌, ◌++◌, Option, Some, None}
use Rattle.std.specs.Prelude.{option_map, length, take, drop, min}
use Rattle.std.proofs.Common.{refl, sym, ap, ◌∙◌, arith, append-nil, get_or}
use Rattle.std.proofs.lemmas.List.{drop_all, drop_more, take-append-drop}
use Rattle.wh_value.specs.Value.{Row}
use Rattle.wh_meaning.specs.Scalar as scalars
use Rattle.wh_meaning.specs.Scalar.{of_two}
use Rattle.wh_meaning.specs.Query as meaning
use Rattle.wh_meaning.specs.Query.{Total, values_on}
use Rattle.wh_algebra.specs.View.{calls_of}
use Rattle.wh_algebra.specs.declared.query.Call.{Call}
use Rattle.wh_maintenance.specs.Standing.{answers}
use Rattle.wh_group.specs.Moves.{Moves, noted, added}
use Rattle.wh_group.specs.declared.moving.Side.{Side}

none_before : {A B C : Type 0} (f : A → B → Option C) (a : Option A) (b : Option B) → b ≡ None → of_two f a b ≡ None
none_before f None b e = refl
none_before f (Some a) b e = ap (of_two f (Some a)) e

none_behind : (side : Side) (by : List scalars.Scalar) (calls : List meaning.Call) (moves : Moves)
    (more rows : List Row) → added side by calls moves rows ≡ None → added side by calls moves (more ++ rows) ≡ None
none_behind side by calls moves [] rows e = e
none_behind side by calls moves (row ∷ more) rows e =
    none_before (noted side calls row) (values_on by row) _ (none_behind side by calls moves more rows e)

-- the row before the place up to which the walk came
pub record Reached (rows : List Row) (left : ℕ) (row : Row) : Type 0 where
  pub some : 0 < left
  pub within : left ≤ length rows
  pub row_is : row ≡ get_or rows (left - 1) row

pub reached_rows : (rows : List Row) (left : ℕ) (row : Row) → Reached rows left row
    → drop (left - 1) rows ≡ row ∷ drop left rows
reached_rows rows left row r =
    let some = r.some in
    let within = r.within in
    let next : (left - 1) + 1 ≡ left = omega arith in
    drop_more rows (left - 1) row (omega arith)
    ∙ ap (λ i. get_or rows (left - 1) row ∷ drop i rows) next
    ∙ ap (λ x. x ∷ drop left rows) (sym r.row_is)

pub stopped_at : (side : Side) (by : List scalars.Scalar) (calls : List meaning.Call) (rows : List Row)
    (left : ℕ) (row : Row) (start moves : Moves)
    → Reached rows left row → added side by calls start (drop left rows) ≡ Some moves
    → of_two (noted side calls row) (values_on by row) (Some moves) ≡ None
    → added side by calls start rows ≡ None
stopped_at side by calls rows left row start moves r so_far none =
    ap (added side by calls start) (sym (take-append-drop (left - 1) rows))
    ∙ none_behind side by calls start (take (left - 1) rows) (drop (left - 1) rows)
    (ap (added side by calls start) (reached_rows rows left row r)
    ∙ ap (of_two (noted side calls row) (values_on by row)) so_far ∙ none)

answers-no_totals : (calls : List meaning.Call) → answers calls [] ≡ Some []
answers-no_totals [] = refl
answers-no_totals (call ∷ calls) = refl

pub answered_all : (calls : List Call) (totals : List Total) (row : Row) (i : ℕ) →
    min (length calls) (length totals) ≤ i →
    option_map (λ rest. row ++ rest) (answers (calls_of (drop i calls)) (drop i totals)) ≡ Some row
answered_all [] totals row i past =
    ap (λ cs. option_map (λ rest. row ++ rest) (answers (calls_of cs) (drop i totals))) (drop_all i [] (omega arith))
    ∙ ap Some (append-nil row)
answered_all (call ∷ calls) [] row i past =
    ap (λ ts. option_map (λ rest. row ++ rest) (answers (calls_of (drop i (call ∷ calls))) ts))
    (drop_all i [] (omega arith))
    ∙ ap (option_map (λ rest. row ++ rest)) (answers-no_totals (calls_of (drop i (call ∷ calls))))
    ∙ ap Some (append-nil row)
answered_all (call ∷ calls) (t ∷ ts) row zero past = absurd (omega arith)
answered_all (call ∷ calls) (t ∷ ts) row (suc i) past = answered_all calls ts row i (omega arith)
