-- Objects with what it takes to take a table's version back, and what a commit did to groups.
--     KeptPart                  a table, and the slots of its groups; none where they aren't kept
--     KeptKind, KeptObject      what an object is, and the object
--     kind_in, object_in        what the file says of it
use Rattle.std.specs.FinMap.{empty}
use Rattle.wh_group.specs.Slots.{Slots}
use Rattle.wh_state.specs.State.{ObjectOf, KindOf, on_table}
use Rattle.wh_state.specs.Stored.{StoredKind, StoredObject}
use Rattle.wh_table.specs.Undoable.{KeptTable, table_in}

pub record KeptPart : Type 0 where
  pub table : KeptTable
  pub slots : Slots

abbrev pub alone : KeptTable → KeptPart
alone t = record { table = t; slots = empty }

abbrev pub KeptKind : Type 0
KeptKind = KindOf KeptPart

abbrev pub KeptObject : Type 0
KeptObject = ObjectOf KeptKind

abbrev pub kind_in : KeptKind → StoredKind
kind_in k = on_table (λ p. table_in p.table) k

abbrev pub object_in : KeptObject → StoredObject
object_in o = record { name = o.name; is_live = o.is_live; kind = kind_in o.kind }
