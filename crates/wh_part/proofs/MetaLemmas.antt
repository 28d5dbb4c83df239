-- The order of a column's values, and rows of one width.
use Rattle.std.proofs.Common.{◌≡◌, ℕ, zero, suc, ◌<◌, Bool, true, false, List, [], ◌∷◌, length, get_or, sym, ◌∙◌, arith}
use Rattle.std.specs.Cmp.{IsStrictWeakOrder}
use Rattle.std.specs.List.{AllByRecursion}
use Rattle.std.specs.Ordering.{is_lt}
use Rattle.std.proofs.lemmas.List.MinMax.{ranks_by, IsStrictWeakOrder-flip}
use Rattle.wh_value.specs.Order.{value_total}
use Rattle.wh_value.specs.Value.{Row, value_cmp}
use Rattle.wh_frame.specs.Partition.{Partition}
use Rattle.wh_frame.specs.Spelling.{IsNumberedRow, IsPartition}
use Rattle.wh_part.specs.Meta.{IsEven, stands_before}

-- the value order ranks, and so does its reverse
pub value_ranks : (backward : Bool) → IsStrictWeakOrder (stands_before backward)
value_ranks false = ranks_by value_total (λ v. v)
value_ranks true = IsStrictWeakOrder-flip (λ x y. is_lt (value_cmp x y)) (ranks_by value_total (λ v. v))

each_width : (width : ℕ) (rows : List (ℕ × Row)) → AllByRecursion (IsNumberedRow width) rows → (k : ℕ) (d : ℕ × Row)
    → k < length rows
    → length (get_or rows k d).1 ≡ width
each_width width [] all k d within = absurd (omega arith)
each_width width (e ∷ es) all zero d within = all.0.1
each_width width (e ∷ es) all (suc k) d within = each_width width es all.1 k d (omega arith)

even_rows : (width : ℕ) (rows : List (ℕ × Row)) → AllByRecursion (IsNumberedRow width) rows → IsEven rows
even_rows width [] all k d within = absurd (omega arith)
even_rows width (e ∷ es) all k d within = each_width width (e ∷ es) all k d within ∙ sym all.0.1

-- what may stand in a file is even
pub even_partition : (width : ℕ) (p : Partition) → IsPartition width p → IsEven p.rows
even_partition width p is = even_rows width p.rows is.rows
