-- Acts that leave the rows of tables, and all of dynamic tables.
--     IsStill        such an act
--     still_kept     it keeps objects sound
use Rattle.std.proofs.Common.{◌≡◌, ℕ, suc, ◌≤◌, List, Some}
use Rattle.std.proofs.Common.{refl, arith}
use Rattle.wh_state.specs.State.{Kind, TableKind, StreamKind, TaskKind, DynamicKind, Object}
use Rattle.wh_state.specs.State.{dropped, at_id, changed_at, on_task}
use Rattle.wh_state.specs.Task.{Task, with_state, with_run, with_ended}
use Rattle.wh_state.specs.Act.{Act, MakesTable, DropsObject, EditsRows, MakesStream, MovesOffset, MakesTask, PutsTask}
use Rattle.wh_state.specs.Act.{BeginsRun, EndsTask, MakesDynamic, PutsDynamic, RefreshesRows}
use Rattle.wh_state.specs.Act.{moved_kind, moved_object, on_task_object, acted}
use Rattle.wh_state.specs.Sound.{IsSoundKind}
use Rattle.wh_state.proofs.EvaluatedLaws.{IsNextKind, next_stream, next_task, next_same, Follows}
use Rattle.wh_state.proofs.SoundObjects.{IsKept}
use Rattle.wh_state.proofs.SoundObjects.{moments_within}
use Rattle.wh_state.proofs.SoundObjects.{changed_kept, more_kept, kind_follows}
use Rattle.wh_state.proofs.SoundTables.{new_sound}

-- no version, and no dynamic table; an offset that moves isn't after the stamp
abbrev pub IsStill : ℕ → Act → Type 0
IsStill stamp (MovesOffset id offset) = offset ≤ stamp
IsStill stamp (EditsRows id e) = ⊥
IsStill stamp (MakesDynamic name lag is_incremental query columns) = ⊥
IsStill stamp (PutsDynamic id state) = ⊥
IsStill stamp (RefreshesRows id moment e c) = ⊥
IsStill stamp _ = Unit {0}

-- one object, whose rows stay and which keeps the state that it has as a dynamic table
still_changed : (stamp : ℕ) (objects : List Object) (id : ℕ) (f : Object → Object) → IsKept stamp objects
    → ((o : Object) → IsNextKind (suc stamp) o.kind (f o).kind)
    → ((all : List Object) (o : Object) → IsSoundKind stamp all o.kind → IsSoundKind stamp all (f o).kind)
    → IsKept stamp (changed_at objects id f)
still_changed stamp objects id f kept next sound =
    changed_kept (suc stamp) stamp objects id f kept (moments_within stamp objects kept) (λ o there. next o)
    (λ follows o there. sound (changed_at objects id f) o (follows_kind follows o there))
  where
    follows_kind : Follows (suc stamp) objects (changed_at objects id f) → (o : Object) → at_id objects id ≡ Some o
        → IsSoundKind stamp (changed_at objects id f) o.kind
    follows_kind follows o there =
        kind_follows (suc stamp) stamp objects (changed_at objects id f) follows kept
        (moments_within stamp objects kept) id o there

moved_next : (before offset : ℕ) (k : Kind) → IsNextKind before k (moved_kind offset k)
moved_next before offset (TableKind t) = next_same before (TableKind t)
moved_next before offset (StreamKind s) = next_stream refl
moved_next before offset (TaskKind t) = next_task
moved_next before offset (DynamicKind d t) = next_same before (DynamicKind d t)

moved_sound : (stamp offset : ℕ) → offset ≤ stamp → (all : List Object) (k : Kind) → IsSoundKind stamp all k
    → IsSoundKind stamp all (moved_kind offset k)
moved_sound stamp offset h all (TableKind t) sound = sound
moved_sound stamp offset h all (StreamKind s) sound = h
moved_sound stamp offset h all (TaskKind t) sound = tt
moved_sound stamp offset h all (DynamicKind d t) sound = sound

task_next : (before : ℕ) (f : Task → Task) (k : Kind) → IsNextKind before k (on_task f k)
task_next before f (TableKind t) = next_same before (TableKind t)
task_next before f (StreamKind s) = next_same before (StreamKind s)
task_next before f (TaskKind t) = next_task
task_next before f (DynamicKind d t) = next_same before (DynamicKind d t)

task_sound : (stamp : ℕ) (f : Task → Task) (all : List Object) (k : Kind) → IsSoundKind stamp all k
    → IsSoundKind stamp all (on_task f k)
task_sound stamp f all (TableKind t) sound = sound
task_sound stamp f all (StreamKind s) sound = sound
task_sound stamp f all (TaskKind t) sound = tt
task_sound stamp f all (DynamicKind d t) sound = sound

task_kept : (stamp : ℕ) (f : Task → Task) (objects : List Object) (id : ℕ) → IsKept stamp objects
    → IsKept stamp (changed_at objects id (on_task_object f))
task_kept stamp f objects id kept = still_changed stamp objects id (on_task_object f) kept
    (λ o. task_next (suc stamp) f o.kind) (λ all o sound. task_sound stamp f all o.kind sound)

pub still_kept : (stamp : ℕ) (objects : List Object) (act : Act) → IsStill stamp act → IsKept stamp objects
    → IsKept stamp (acted stamp objects act)
still_kept stamp objects (EditsRows id e) still kept = absurd still
still_kept stamp objects (MakesDynamic name lag is_incremental query columns) still kept = absurd still
still_kept stamp objects (PutsDynamic id state) still kept = absurd still
still_kept stamp objects (RefreshesRows id moment e c) still kept = absurd still
still_kept stamp objects (MakesTable name columns retention) still kept =
    more_kept stamp objects _ kept (new_sound columns retention stamp) (λ d is. absurd cc)
still_kept stamp objects (MakesStream name source is_append_only) still kept =
    more_kept stamp objects _ kept (omega arith) (λ d is. absurd cc)
still_kept stamp objects (MakesTask name minutes after runs) still kept =
    more_kept stamp objects _ kept tt (λ d is. absurd cc)
still_kept stamp objects (DropsObject id) still kept =
    still_changed stamp objects id dropped kept (λ o. next_same (suc stamp) o.kind) (λ all o sound. sound)
still_kept stamp objects (MovesOffset id offset) still kept =
    still_changed stamp objects id (moved_object offset) kept (λ o. moved_next (suc stamp) offset o.kind)
    (λ all o sound. moved_sound stamp offset still all o.kind sound)
still_kept stamp objects (PutsTask id state) still kept = task_kept stamp (with_state state) objects id kept
still_kept stamp objects (BeginsRun root tasks) still kept = task_kept stamp (with_run tasks) objects root kept
still_kept stamp objects (EndsTask root task ending) still kept =
    task_kept stamp (with_ended task ending) objects root kept
