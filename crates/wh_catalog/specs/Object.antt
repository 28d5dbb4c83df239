-- What objects of the code stand for, and where they stand.
--     kept_object, kept_objects     objects with what it takes to take a version back
--     stored_kind, stored_objects   what the file says of them
--     object_of                     the machine's object that one means
--     live_in                       how many live
--     filed_in_kind, filed_in_kept, filed_of_objects     the partitions of all versions, as they stand in the file
--     IsPlaceOf                     where the object of an id stands
use Rattle.std.specs.Prelude.{◌≡◌, ℕ, suc, ◌<◌, List, [], map, length, count_by}
use Rattle.std.specs.List.{flat_map}
use Rattle.wh_state.specs.State.{Object, TableKind, StreamKind, TaskKind, DynamicKind}
use Rattle.wh_state.specs.Stored as machine
use Rattle.wh_filed.specs.Filed.{Filed}
use Rattle.wh_table.specs.Table.{kept_table}
use Rattle.wh_task.specs.View.{task_of}
use Rattle.wh_dynamic.specs.View.{dynamic_of, slots_in}
use Rattle.wh_catalog.specs.declared.object.StoredKind.{StoredKind}
use Rattle.wh_catalog.specs.declared.object.StoredKind.TheVariants.{Table, Stream, Task, Dynamic}
use Rattle.wh_catalog.specs.declared.object.StoredObject.{StoredObject}
use Rattle.wh_catalog.specs.Undoable.{alone, KeptKind, KeptObject, kind_in, object_in}
use Rattle.wh_catalog.specs.Stream.{stream_of}

abbrev pub kept_kind : StoredKind → KeptKind
kept_kind (Table t) = TableKind (alone (kept_table t))
kept_kind (Stream s) = StreamKind (stream_of s)
kept_kind (Task t) = TaskKind (task_of t)
kept_kind (Dynamic d t) = DynamicKind (dynamic_of d) (record { table = kept_table t; slots = slots_in d })

abbrev pub stored_kind : StoredKind → machine.StoredKind
stored_kind k = kind_in (kept_kind k)

abbrev pub kept_object : StoredObject → KeptObject
kept_object o = record { name = o.name; is_live = o.is_live; kind = kept_kind o.kind }

abbrev pub kept_objects : List StoredObject → List KeptObject
kept_objects objects = map kept_object objects

abbrev pub stored_objects : List StoredObject → List machine.StoredObject
stored_objects objects = map object_in (kept_objects objects)

abbrev pub object_of : StoredObject → Object
object_of o = machine.object_meant (object_in (kept_object o))

abbrev pub live_in : List StoredObject → ℕ
live_in objects = count_by (λ o. o.is_live) objects

abbrev pub filed_in_kind : KeptKind → List Filed
filed_in_kind (TableKind p) = p.table.filed
filed_in_kind (StreamKind s) = []
filed_in_kind (TaskKind t) = []
filed_in_kind (DynamicKind d p) = p.table.filed

-- those of dropped objects too
abbrev pub filed_in_kept : List KeptObject → List Filed
filed_in_kept objects = flat_map (λ o. filed_in_kind o.kind) objects

abbrev pub filed_of_objects : List StoredObject → List Filed
filed_of_objects objects = filed_in_kept (kept_objects objects)

-- ids begin at 1, places at 0
pub record IsPlaceOf (id : ℕ) (objects : List StoredObject) (place : ℕ) : Type 0 where
  pub before : id ≡ suc place
  pub within : place < length objects
