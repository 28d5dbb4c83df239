-- What an update of kept groups finds.
--     change_of      rows that come and rows that go
--     StandIn        each row of a bag is one of another's
--     IsUpdated      the groups are moved by their entries, and the rows of groups come and go
--     LeavesNone     a row that comes lacks its key or an argument, or a touched group has no row, before or afterwards
use Rattle.std.specs.Prelude.{◌≢◌, ◌⊎◌, ◌<◌, List, map, Some, None}
use Rattle.std.specs.List.{AllByRecursion}
use Rattle.std.specs.List.Sorted.{IsStrictlySortedBy}
use Rattle.std.specs.FinMap.{get}
use Rattle.wh_value.specs.Value.{Row, row_cmp}
use Rattle.wh_meaning.specs.Scalar.{Scalar}
use Rattle.wh_meaning.specs.Bag.{Bag, bag_of, count}
use Rattle.wh_meaning.specs.Query.{Call}
use Rattle.wh_maintenance.specs.Carried.{Change}
use Rattle.wh_maintenance.specs.Standing.{Groups, IsMovedTo, LacksKey, LacksArgument}
use Rattle.wh_maintenance.specs.Entries.{GroupEntry, set_all}
use Rattle.wh_group.specs.declared.settling.Updated.{Updated}

abbrev pub change_of : List Row → List Row → Change
change_of comes goes = record { comes = bag_of comes; goes = bag_of goes }

abbrev pub StandIn : Bag → Bag → Type 0
StandIn goes b = (row : Row) → 0 < count goes row → 0 < count b row

abbrev pub keys_of : List GroupEntry → List Row
keys_of entries = map (λ x. x.key) entries

pub record IsUpdated (by : List Scalar) (calls : List Call) (c : Change) (groups : Groups) (u : Updated)
    : Type 0 where
  pub moved : IsMovedTo by calls c groups (set_all u.entries.items groups) (Some (change_of u.comes.items u.goes.items))
  pub rising : IsStrictlySortedBy row_cmp (keys_of u.entries.items)
  pub changes : AllByRecursion (λ x. x.group ≢ get groups x.key) u.entries.items

abbrev pub LeavesNone : List Scalar → List Call → Change → Groups → Type 0
LeavesNone by calls c groups =
    LacksKey by c ⊎ (LacksArgument by calls c ⊎ ((groups' : Groups) × IsMovedTo by calls c groups groups' None))
