-- The rows of a partition lie within what is known of it.
--     within_meta     of each partition that is so described
use Rattle.std.specs.Prelude.{◌≡◌, ℕ, zero, suc, ◌<◌, false, List, [], ◌∷◌, map, length, Some, slice_get}
use Rattle.std.proofs.Common.{refl, sym, ap, ◌∙◌, get_or, arith}
use Rattle.std.specs.List.{All}
use Rattle.std.specs.Ordering.{is_lt, is_gt}
use Rattle.std.proofs.lemmas.List.{length-map, get_or-map}
use Rattle.wh_value.specs.Value.{Null, Row, value_cmp}
use Rattle.wh_meaning.specs.Listing.{cell}
use Rattle.wh_frame.specs.Partition.{Partition}
use Rattle.wh_part.specs.declared.meta.Bounds.{Bounds}
use Rattle.wh_part.specs.declared.meta.PartMeta.{PartMeta}
use Rattle.wh_part.specs.Meta.{IsMetaOf, column, IsBoundsOf}
use Rattle.wh_part.specs.Holding.{Sides, sides_of, columns_of, IsWithin}
use Rattle.wh_part.proofs.Rejected.{lt_is}

-- a column's bounds, where its sides are known
record FoundBounds (columns : List Bounds) (place : ℕ) (b : Sides) : Type 0 where
  pub bounds : Bounds
  pub inside : place < length columns
  pub same : sides_of (get_or columns place bounds) ≡ b

found_bounds : (columns : List Bounds) (place : ℕ) (b : Sides) → slice_get (map sides_of columns) place ≡ Some b
    → FoundBounds columns place b
found_bounds [] place b e = cc
found_bounds (x ∷ xs) zero b e = record { bounds = x; inside = omega arith; same = cc }
found_bounds (x ∷ xs) (suc place) b e = let f = found_bounds xs place b e in let more = f.inside in
    record { bounds = f.bounds; inside = omega arith; same = f.same }

cell_is : (row : Row) (place : ℕ) → get_or row place Null ≡ cell row place
cell_is [] place = refl
cell_is (v ∷ row) zero = refl
cell_is (v ∷ row) (suc place) = cell_is row place

-- each value of a column lies between its bounds
module _ (rows : List (ℕ × Row)) (i : ℕ) (e : ℕ × Row) (inside : i < length rows) (place : ℕ) (bounds : Bounds)
    (is : IsBoundsOf bounds (column place rows)) where
  at_column : get_or (column place rows) i Null ≡ cell (get_or rows i e).1 place
  at_column = get_or-map (λ (r : ℕ × Row). get_or r.1 place Null) rows i e Null inside
      ∙ cell_is (get_or rows i e).1 place

  in_column : i < length (column place rows)
  in_column = omega (arith, length-map rows (λ (r : ℕ × Row). get_or r.1 place Null))

  above_least : is_gt (value_cmp (sides_of bounds).0 (cell (get_or rows i e).1 place)) ≡ false
  above_least = sym (lt_is (cell (get_or rows i e).1 place) (sides_of bounds).0)
      ∙ ap (λ v. is_lt (value_cmp v (sides_of bounds).0)) (sym at_column)
      ∙ is.least.none_less i Null in_column

  below_greatest : is_gt (value_cmp (cell (get_or rows i e).1 place) (sides_of bounds).1) ≡ false
  below_greatest = sym (lt_is (sides_of bounds).1 (cell (get_or rows i e).1 place))
      ∙ ap (λ v. is_lt (value_cmp (sides_of bounds).1 v)) (sym at_column)
      ∙ is.greatest.none_greater i Null in_column

pub within_meta : (meta : PartMeta) (p : Partition) → IsMetaOf meta p → All (λ e. IsWithin (columns_of meta) e.1) p.rows
within_meta meta p is i e inside = record {
  least = λ place b found.
      let f = found_bounds meta.columns.items place b found in
      let near = f.inside in
      let wide = is.width in
      ap (λ (s : Sides). is_gt (value_cmp s.0 (cell (get_or p.rows i e).1 place))) (sym f.same)
      ∙ above_least p.rows i e inside place _ (is.columns place f.bounds (omega arith));
  greatest = λ place b found.
      let f = found_bounds meta.columns.items place b found in
      let near = f.inside in
      let wide = is.width in
      ap (λ (s : Sides). is_gt (value_cmp (cell (get_or p.rows i e).1 place) s.1)) (sym f.same)
      ∙ below_greatest p.rows i e inside place _ (is.columns place f.bounds (omega arith));
}
