-- What stands in the tables of a catalog is orderly.
use Rattle.std.proofs.Common.{List, [], ◌∷◌}
use Rattle.std.specs.List.{AllByRecursion}
use Rattle.wh_state.specs.Orderly.{IsOrderlyKind, IsOrderlyObject}
use Rattle.wh_table.proofs.OrderlyTables.{orderly_table}
use Rattle.wh_catalog.specs.declared.object.StoredKind.{StoredKind}
use Rattle.wh_catalog.specs.declared.object.StoredKind.TheVariants.{Table, Stream, Task, Dynamic}
use Rattle.wh_catalog.specs.declared.object.StoredObject.{StoredObject}
use Rattle.wh_catalog.specs.Undoable.{kind_in}
use Rattle.wh_catalog.specs.Object.{kept_kind, stored_objects}

orderly_kind : (k : StoredKind) → IsOrderlyKind (kind_in (kept_kind k))
orderly_kind (Table t) = orderly_table t
orderly_kind (Stream s) = tt
orderly_kind (Task t) = tt
orderly_kind (Dynamic d t) = orderly_table t

pub orderly_objects : (os : List StoredObject) → AllByRecursion IsOrderlyObject (stored_objects os)
orderly_objects [] = tt
orderly_objects (o ∷ os) = (orderly_kind o.kind, orderly_objects os)
