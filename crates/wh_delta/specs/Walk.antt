-- The walk over rows of which some go.
--     Stays     so far: of each row as many went as are to go, and the others stay
use Rattle.std.specs.Prelude.{◌≡◌, ◌-◌, List}
use Rattle.wh_value.specs.Value.{Row}
use Rattle.wh_meaning.specs.Bag.{Bag, bag_of, count}
use Rattle.wh_maintenance.specs.Turn.{less}

pub record Stays (goes : Bag) (seen kept : List Row) (met : Bag) : Type 0 where
  pub rest : bag_of kept ≡ less (bag_of seen) goes
  pub gone : (row : Row) → count met row ≡ count (bag_of seen) row - count (bag_of kept) row
