-- Objects as they were: tables without their last version, streams with the offset of before, tasks with the state or
-- the run of before, dynamic tables with the state or the groups of before, and dropped objects that live again.
use Rattle.std.specs.Prelude.{ℕ, true, ◌&&◌, List, map, nat_lt, if◌then◌else◌}
use Rattle.wh_group.specs.declared.groups.Before.{Before}
use Rattle.wh_group.specs.Slots.{put_before}
use Rattle.wh_value.specs.Limit.{bound}
use Rattle.wh_value.specs.declared.limit.Limit.TheVariants as limits
use Rattle.wh_state.specs.State.{TableKind, StreamKind, TaskKind, DynamicKind}
use Rattle.wh_state.specs.State.{on_table, on_stream, on_task, on_dynamic, with_offset, changed_at, live_count}
use Rattle.wh_state.specs.Task.{Task, Run}
use Rattle.wh_state.specs.Dynamic.{Dynamic}
use Rattle.wh_dynamic.specs.View.{with_slots}
use Rattle.wh_table.specs.Undoable.{taken_back}
use Rattle.wh_catalog.specs.Undoable.{KeptPart, KeptKind, KeptObject}
use Rattle.wh_catalog.specs.Names.{is_last}

-- a table without its last version; the next row is that of before
abbrev pub part_taken_back : ℕ → KeptPart → KeptPart
part_taken_back next_row p = record p { table = taken_back next_row p.table }

abbrev pub kind_taken_back : ℕ → KeptKind → KeptKind
kind_taken_back next_row k = on_table (part_taken_back next_row) k

abbrev pub object_taken_back : ℕ → KeptObject → KeptObject
object_taken_back next_row o = record o { kind = kind_taken_back next_row o.kind }

-- a stream with the offset of before
abbrev pub kind_put_back : ℕ → KeptKind → KeptKind
kind_put_back offset k = on_stream (with_offset offset) k

abbrev pub object_put_back : ℕ → KeptObject → KeptObject
object_put_back offset o = record o { kind = kind_put_back offset o.kind }

-- a task changed, as by `with_state` and `holding`
abbrev pub on_task_kept : (Task → Task) → KeptObject → KeptObject
on_task_kept f o = record o { kind = on_task f o.kind }

-- a root with that run
abbrev pub holding : Run → Task → Task
holding run t = record t { run = run }

-- what a dynamic table has beside its rows changed, as by `with_dynamic_state`
abbrev pub on_dynamic_kept : (Dynamic → Dynamic) → KeptObject → KeptObject
on_dynamic_kept f o = record o { kind = on_dynamic f o.kind }

-- a dynamic table with the groups of before, by what stood in their slots
abbrev pub kind_regrouped : Before → KeptKind → KeptKind
kind_regrouped was (TableKind p) = TableKind p
kind_regrouped was (StreamKind s) = StreamKind s
kind_regrouped was (TaskKind t) = TaskKind t
kind_regrouped was (DynamicKind d p) =
    let slots = put_before was p.slots in DynamicKind (with_slots slots d) (record p { slots = slots })

abbrev pub object_regrouped : Before → KeptObject → KeptObject
object_regrouped was o = record o { kind = kind_regrouped was o.kind }

-- an object lives again
abbrev pub alive : KeptObject → KeptObject
alive o = record o { is_live = true }

-- the object of an id lives again, if there is room for it among those that live, and it is the last one of its name
abbrev pub lives_again : ℕ → List KeptObject → List KeptObject
lives_again id objects =
    if nat_lt (live_count objects) (bound limits.Objects) && is_last id (map (λ o. o.name) objects)
    then changed_at objects id alive else objects
