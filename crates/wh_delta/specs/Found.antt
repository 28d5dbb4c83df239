-- What is found of the change of a query's rows.
--     FindsNet     the net change from the bag before to the one afterwards; None exactly where there is none
--     IsApart      no row is on both sides
use Rattle.std.specs.Prelude.{◌≡◌, min, Option, Some, None}
use Rattle.wh_value.specs.Value.{Row}
use Rattle.wh_meaning.specs.Bag.{Bag, count}
use Rattle.wh_meaning.specs.BagChange.{IsNet}
use Rattle.wh_bag.specs.declared.change.Signed.{Signed}

abbrev pub FindsNet : Bag → Option Bag → Option Signed → Type 0
FindsNet old None None = Unit {0}
FindsNet old None (Some change) = ⊥
FindsNet old (Some new) None = ⊥
FindsNet old (Some new) (Some change) = IsNet old new change.plus change.minus

abbrev pub IsApart : Option Signed → Type 0
IsApart None = Unit {0}
IsApart (Some change) = (row : Row) → min (count change.plus row) (count change.minus row) ≡ 0
