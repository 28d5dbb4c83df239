-- The partitions of a table in which rows that go may stand.
--     is_between      whether a value lies between a column's sides
--     StaysWithin     no row goes whose values lie between the sides of their columns
--     AllStay         none of some rows goes
--     AreGoing        some of the partitions, and no row of the others goes
use Rattle.std.specs.Prelude.{◌≡◌, ℕ, ◌⊎◌, Bool, not, ◌&&◌, List, [], ◌∷◌}
use Rattle.std.specs.List.{AllByRecursion}
use Rattle.std.specs.Ordering.{is_gt}
use Rattle.wh_value.specs.Value.{Value, Row, value_cmp}
use Rattle.wh_frame.specs.Partition.{Partition}
use Rattle.wh_meaning.specs.Bag.{Bag, count}
use Rattle.wh_part.specs.Holding.{Sides, IsWithin}

abbrev pub is_between : Sides → Value → Bool
is_between b v = not (is_gt (value_cmp b.0 v)) && not (is_gt (value_cmp v b.1))

abbrev pub StaysWithin : List Sides → Bag → Type 0
StaysWithin columns minus = (row : Row) → IsWithin columns row → count minus row ≡ 0

abbrev pub AllStay : Bag → List (ℕ × Row) → Type 0
AllStay minus es = AllByRecursion (λ e. count minus e.1 ≡ 0) es

-- in the same order
abbrev pub AreGoing : Bag → List Partition → List Partition → Type 0
AreGoing minus [] going = going ≡ []
AreGoing minus (p ∷ ps) going =
    ((rest : List Partition) × (going ≡ p ∷ rest) × AreGoing minus ps rest)
    ⊎ (AllStay minus p.rows × AreGoing minus ps going)
