-- Tasks that change, in what a catalog keeps and in what the file says.
--     tasks_changed       a change of a kept task is one of the stored task
--     no_task             where no task stands, no live one does
--     not_changed         .. and no change of a task is one
--     ended_task          a root whose run is put behind an end has that end
use Rattle.std.proofs.Common.{◌≡◌, ℕ, Bool, List, map, Option, Some, None, option_map}
use Rattle.std.proofs.Common.{refl, sym, ap, subst, ◌∙◌}
use Rattle.std.specs.Prelude.{IsSomeAnd}
use Rattle.std.specs.Option.{option_and_then}
use Rattle.wh_state.specs.Task.{Task, Run, Ending, ended_in, with_ended}
use Rattle.wh_state.specs.State.{ObjectOf, TableKind, StreamKind, TaskKind, DynamicKind, on_task, task_in, at_id, with_id}
use Rattle.wh_state.specs.State.{put_at, changed_at}
use Rattle.wh_state.specs.Stored.{StoredKind, StoredObject}
use Rattle.wh_state.specs.Objects.{as_task, task_at}
use Rattle.wh_state.specs.Commit.{IsLiveTask, on_task_stored}
use Rattle.wh_state.proofs.IdLaws.{map_at, map_changed, with_same}
use Rattle.wh_catalog.specs.Undoable.{KeptKind, KeptObject, kind_in, object_in}
use Rattle.wh_catalog.specs.Back.{on_task_kept, holding}

abbrev object_of : {K : Type 0} → List ℕ → Bool → K → ObjectOf K
object_of name is_live kind = record { name = name; is_live = is_live; kind = kind }

-- ---- what is kept, and what the file says of it

same_kind : (f : Task → Task) (k : KeptKind) → kind_in (on_task f k) ≡ on_task f (kind_in k)
same_kind f (TableKind t) = refl
same_kind f (StreamKind s) = refl
same_kind f (TaskKind t) = refl
same_kind f (DynamicKind d t) = refl

same_object : (f : Task → Task) (o : KeptObject) → object_in (on_task_kept f o) ≡ on_task_stored f (object_in o)
same_object f o = ap (object_of o.name o.is_live) (same_kind f o.kind)

pub tasks_changed : (f : Task → Task) (xs : List KeptObject) (id : ℕ)
    → map object_in (changed_at xs id (on_task_kept f)) ≡ changed_at (map object_in xs) id (on_task_stored f)
tasks_changed f xs id = map_changed object_in (on_task_kept f) (on_task_stored f) (same_object f) xs id

same_task : (k : KeptKind) → task_in (kind_in k) ≡ task_in k
same_task (TableKind t) = refl
same_task (StreamKind s) = refl
same_task (TaskKind t) = refl
same_task (DynamicKind d t) = refl

stored_task : (xs : List KeptObject) (id : ℕ) → task_at (map object_in xs) id ≡ task_at xs id
stored_task xs id = ap (option_and_then as_task) (map_at object_in xs id) ∙ by (at_id xs id)
  where
    by : (found : Option KeptObject) → option_and_then as_task (option_map object_in found) ≡ option_and_then as_task found
    by None = refl
    by (Some o) = same_task o.kind

-- ---- no task

no_task_there : (P : Task → Type 0) (found : Option StoredObject) → option_and_then as_task found ≡ None
    → IsLiveTask P found → ⊥
no_task_there P None none lives = lives
no_task_there P (Some o) none lives = let Q : Option Task → Type 0 = λ t. IsSomeAnd t P in subst Q none lives.1

pub no_task : (P : Task → Type 0) (xs : List KeptObject) (id : ℕ) → task_at xs id ≡ None
    → IsLiveTask P (at_id (map object_in xs) id) → ⊥
no_task P xs id none = no_task_there P (at_id (map object_in xs) id) (stored_task xs id ∙ none)

kind_stays : (f : Task → Task) (k : KeptKind) → task_in k ≡ None → on_task f k ≡ k
kind_stays f (TableKind t) none = refl
kind_stays f (StreamKind s) none = refl
kind_stays f (TaskKind t) none = cc
kind_stays f (DynamicKind d t) none = refl

pub not_changed : (f : Task → Task) (xs : List KeptObject) (id : ℕ) → task_at xs id ≡ None
    → changed_at xs id (on_task_kept f) ≡ xs
not_changed f xs id none = by (at_id xs id) refl none
  where
    by : (found : Option KeptObject) → at_id xs id ≡ found → option_and_then as_task found ≡ None
        → put_at xs id (option_map (on_task_kept f) found) ≡ xs
    by None there none = refl
    by (Some o) there none =
        ap (λ k. with_id xs id (object_of o.name o.is_live k)) (kind_stays f o.kind none)
        ∙ with_same xs id o there

-- ---- the end of a task

module _ (task : ℕ) (ending : Ending) (run : Run) where
  ended_kind : (k : StoredKind) → option_map (λ (t : Task). ended_in task ending t.run) (task_in k) ≡ Some run
      → on_task (holding run) k ≡ on_task (with_ended task ending) k
  ended_kind (TableKind t) is = refl
  ended_kind (StreamKind s) is = refl
  ended_kind (DynamicKind d t) is = refl
  ended_kind (TaskKind t) is =
      let same : ended_in task ending t.run ≡ run = cc in ap (λ r. TaskKind (record t { run = r })) (sym same)

  ended_found : (found : Option StoredObject)
      → option_map (λ (t : Task). ended_in task ending t.run) (option_and_then as_task found) ≡ Some run
      → option_map (on_task_stored (holding run)) found ≡ option_map (on_task_stored (with_ended task ending)) found
  ended_found None is = refl
  ended_found (Some o) is =
      ap (λ k. Some (object_of o.name o.is_live k)) (ended_kind o.kind is)

  pub ended_task : (objects : List StoredObject) (root : ℕ)
      → option_map (λ (t : Task). ended_in task ending t.run) (task_at objects root) ≡ Some run
      → changed_at objects root (on_task_stored (holding run))
      ≡ changed_at objects root (on_task_stored (with_ended task ending))
  ended_task objects root is = ap (put_at objects root) (ended_found (at_id objects root) is)
