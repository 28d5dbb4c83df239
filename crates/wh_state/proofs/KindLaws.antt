-- The stream of a kind whose table changed, and of one whose stream did, and what stays at another offset.
use Rattle.std.proofs.Common.{◌≡◌, ℕ, option_map, refl}
use Rattle.wh_state.specs.State.{Table, Stream, Kind, TableKind, StreamKind, TaskKind, DynamicKind, on_table, on_stream}
use Rattle.wh_state.specs.State.{on_task}
use Rattle.wh_state.specs.State.{on_dynamic}
use Rattle.wh_state.specs.State.{stream_in}
use Rattle.wh_state.specs.Task.{Task}
use Rattle.wh_state.specs.Dynamic.{Dynamic}
use Rattle.wh_state.specs.Stored.{StoredTable, StoredKind}
use Rattle.wh_state.specs.Commit.{offset_set_kind}

pub stream_of_table : (f : Table → Table) (k : Kind) → stream_in (on_table f k) ≡ stream_in k
stream_of_table f (TableKind t) = refl
stream_of_table f (StreamKind s) = refl
stream_of_table f (TaskKind t) = refl
stream_of_table f (DynamicKind d t) = refl

pub stream_of_task : (f : Task → Task) (k : Kind) → stream_in (on_task f k) ≡ stream_in k
stream_of_task f (TableKind t) = refl
stream_of_task f (StreamKind s) = refl
stream_of_task f (TaskKind t) = refl
stream_of_task f (DynamicKind d t) = refl

pub stream_of_dynamic : (f : Dynamic → Dynamic) (k : Kind) → stream_in (on_dynamic f k) ≡ stream_in k
stream_of_dynamic f (TableKind t) = refl
stream_of_dynamic f (StreamKind s) = refl
stream_of_dynamic f (TaskKind t) = refl
stream_of_dynamic f (DynamicKind d t) = refl

pub stream_of_stream : (f : Stream → Stream) (k : Kind) → stream_in (on_stream f k) ≡ option_map f (stream_in k)
stream_of_stream f (TableKind t) = refl
stream_of_stream f (StreamKind s) = refl
stream_of_stream f (TaskKind t) = refl
stream_of_stream f (DynamicKind d t) = refl

-- what a stream keeps at another offset is kept
pub offset_keeps : (P : StoredKind → Type 0) (offset : ℕ)
    → ((s : Stream) → P (StreamKind s) → P (offset_set_kind offset (StreamKind s))) → (k : StoredKind) → P k
    → P (offset_set_kind offset k)
offset_keeps P offset keeps (TableKind t) h = h
offset_keeps P offset keeps (StreamKind s) h = keeps s h
offset_keeps P offset keeps (TaskKind t) h = h
offset_keeps P offset keeps (DynamicKind d t) h = h

-- what a task keeps however it is changed is kept
pub task_keeps : (P : StoredKind → Type 0) (f : Task → Task) → ((t : Task) → P (TaskKind t) → P (TaskKind (f t)))
    → (k : StoredKind) → P k → P (on_task f k)
task_keeps P f keeps (TableKind t) h = h
task_keeps P f keeps (StreamKind s) h = h
task_keeps P f keeps (TaskKind t) h = keeps t h
task_keeps P f keeps (DynamicKind d t) h = h

-- what a kind keeps whatever a dynamic table has beside its rows is kept
pub dynamic_keeps : (P : StoredKind → Type 0) (f : Dynamic → Dynamic)
    → ((d : Dynamic) (t : StoredTable) → P (DynamicKind d t) → P (DynamicKind (f d) t)) → (k : StoredKind) → P k
    → P (on_dynamic f k)
dynamic_keeps P f keeps (TableKind t) h = h
dynamic_keeps P f keeps (StreamKind s) h = h
dynamic_keeps P f keeps (TaskKind t) h = h
dynamic_keeps P f keeps (DynamicKind d t) h = keeps d t h
