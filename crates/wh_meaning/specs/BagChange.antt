-- Changes of a bag: rows that are added, and rows that are taken away.
--     IsExcess        the rows that a bag has more often than another, each so often
--     IsNet           the least change from one bag to another: no row is on both sides
--     IsChanged       the bag that a change leaves
--     Lacks           a row is taken away more often than it is there
--     Overflows       a row would be there 2^64 times or more
--     IsWithin        no row is there so often
use Rattle.std.specs.Prelude.{◌≡◌, ◌+◌, ◌-◌, ◌^◌, ◌<◌, ◌≤◌}
use Rattle.wh_value.specs.Value.{Row}
use Rattle.wh_meaning.specs.Bag.{Bag, count}

abbrev pub IsExcess : Bag → Bag → Bag → Type 0
IsExcess a b more = (row : Row) → count more row ≡ count a row - count b row

pub record IsNet (old new plus minus : Bag) : Type 0 where
  pub added : IsExcess new old plus
  pub removed : IsExcess old new minus

abbrev pub IsChanged : Bag → Bag → Bag → Bag → Type 0
IsChanged old plus minus new = (row : Row) → count new row + count minus row ≡ count old row + count plus row

abbrev pub Lacks : Bag → Bag → Bag → Type 0
Lacks old plus minus = (row : Row) × (count old row + count plus row < count minus row)

abbrev pub Overflows : Bag → Bag → Bag → Type 0
Overflows old plus minus = (row : Row) × (2 ^ 64 + count minus row ≤ count old row + count plus row)

abbrev pub IsWithin : Bag → Type 0
IsWithin b = (row : Row) → count b row < 2 ^ 64
