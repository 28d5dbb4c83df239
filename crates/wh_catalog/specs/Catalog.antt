-- What a `Catalog` stands for.
--     stored_of           what the commits so far say
--     state_of            the state of the machine, with the last stamp
--     filed_of            the partitions of all versions of all tables, as they stand in the file
--     filed_under         those of the table of an id
use Rattle.std.specs.Prelude.{ℕ, List, [], map, Option, Some, None}
use Rattle.wh_filed.specs.Filed.{Filed}
use Rattle.wh_state.specs.State.{State, at_id}
use Rattle.wh_state.specs.Stored as machine
use Rattle.wh_catalog.specs.declared.catalog.Catalog.{Catalog}
use Rattle.wh_catalog.specs.Undoable.{KeptObject, object_in}
use Rattle.wh_catalog.specs.Object.{kept_object, filed_in_kind, filed_in_kept}

unfoldable pub kept_of : Catalog → List KeptObject
kept_of c = map kept_object c.objects.items

abbrev pub objects_of : Catalog → List machine.StoredObject
objects_of c = map object_in (kept_of c)

unfoldable pub stored_of : Catalog → machine.Stored
stored_of c = record { last = c.committed; objects = objects_of c }

unfoldable pub state_of : Catalog → State
state_of c = record (machine.meant (stored_of c)) { last = c.last }

abbrev pub filed_of : Catalog → List Filed
filed_of c = filed_in_kept (kept_of c)

abbrev pub filed_in_object : Option KeptObject → List Filed
filed_in_object None = []
filed_in_object (Some o) = filed_in_kind o.kind

abbrev pub filed_under : Catalog → ℕ → List Filed
filed_under c id = filed_in_object (at_id (kept_of c) id)
