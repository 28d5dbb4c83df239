-- Objects by their ids, and what is there.
--     is_table, is_stream, is_task, is_dynamic     kinds; a dynamic table is no table
--     table_at, stream_at, task_at, dynamic_at     what stands at an id: the rows of a table or of a dynamic table, a
--                                 stream, a task, what a dynamic table has beside its rows
--     live_tasks                  the live tasks by their ids
--     name_at, is_live_at         the name of an object, and whether it lives
--     is_kind_at                  whether it is of a kind
use Rattle.std.specs.Prelude.{ℕ, Bool, false, not, ◌&&◌, List, [], map, Option, None, is_some, if◌then◌else◌}
use Rattle.std.specs.Option.{option_and_then, option_map_or}
use Rattle.wh_state.specs.State.{ObjectOf, KindOf, Kind, Object, Stream, table_in, stream_in, task_in, dynamic_in}
use Rattle.wh_state.specs.State.{at_id}
use Rattle.wh_state.specs.Task.{Task}
use Rattle.wh_state.specs.Dynamic.{Dynamic}

abbrev pub is_table : {T : Type 0} → KindOf T → Bool
is_table k = is_some (table_in k) && not (is_some (dynamic_in k))

abbrev pub is_stream : {T : Type 0} → KindOf T → Bool
is_stream k = is_some (stream_in k)

abbrev pub is_task : {T : Type 0} → KindOf T → Bool
is_task k = is_some (task_in k)

abbrev pub is_dynamic : {T : Type 0} → KindOf T → Bool
is_dynamic k = is_some (dynamic_in k)

-- ---- by ids

abbrev pub as_table : {T : Type 0} → ObjectOf (KindOf T) → Option T
as_table o = table_in o.kind

abbrev pub table_at : {T : Type 0} → List (ObjectOf (KindOf T)) → ℕ → Option T
table_at objects id = option_and_then as_table (at_id objects id)

abbrev pub as_stream : {T : Type 0} → ObjectOf (KindOf T) → Option Stream
as_stream o = stream_in o.kind

abbrev pub stream_at : {T : Type 0} → List (ObjectOf (KindOf T)) → ℕ → Option Stream
stream_at objects id = option_and_then as_stream (at_id objects id)

abbrev pub as_task : {T : Type 0} → ObjectOf (KindOf T) → Option Task
as_task o = task_in o.kind

abbrev pub task_at : {T : Type 0} → List (ObjectOf (KindOf T)) → ℕ → Option Task
task_at objects id = option_and_then as_task (at_id objects id)

abbrev pub as_dynamic : {T : Type 0} → ObjectOf (KindOf T) → Option Dynamic
as_dynamic o = dynamic_in o.kind

abbrev pub dynamic_at : {T : Type 0} → List (ObjectOf (KindOf T)) → ℕ → Option Dynamic
dynamic_at objects id = option_and_then as_dynamic (at_id objects id)

abbrev pub live_task : {T : Type 0} → ObjectOf (KindOf T) → Option Task
live_task o = if o.is_live then task_in o.kind else None

abbrev pub live_tasks : {T : Type 0} → List (ObjectOf (KindOf T)) → List (Option Task)
live_tasks objects = map live_task objects

abbrev pub name_at : List Object → ℕ → List ℕ
name_at objects id = option_map_or (λ o. o.name) (at_id objects id) []

abbrev pub is_live_at : List Object → ℕ → Bool
is_live_at objects id = option_map_or (λ o. o.is_live) (at_id objects id) false

abbrev pub is_kind_at : (Kind → Bool) → List Object → ℕ → Bool
is_kind_at takes objects id = option_map_or (λ o. takes o.kind) (at_id objects id) false
