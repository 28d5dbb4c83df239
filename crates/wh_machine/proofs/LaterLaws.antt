-- What acts leave of objects: base tables have the versions that they had, and the offsets of streams move on.
--     same_later      nothing is done
--     acts_later      acts that move offsets on, and that refresh no base table
use Rattle.std.proofs.Common.{◌≡◌, ℕ, zero, suc, ◌-◌, ◌<◌, ◌≤◌, Bool, false, cond, List, [], ◌∷◌, ◌++◌}
use Rattle.std.proofs.Common.{Option, Some, None, option_map, refl, sym, ap, subst, ◌∙◌, arith}
use Rattle.std.specs.Prelude.{nat_le, slice_get, slice_set}
use Rattle.std.specs.List.{filter}
use Rattle.std.proofs.lemmas.Bool.{lt-leb}
use Rattle.wh_state.specs.State.{TaskKind, DynamicKind, on_task, on_dynamic}
use Rattle.wh_state.specs.Dynamic.{Dynamic, with_dynamic_state, with_groups}
use Rattle.std.specs.Option.{option_and_then}
use Rattle.wh_state.specs.State.{Version, Table, Stream, Kind, TableKind, StreamKind, Object, State, nothing_held}
use Rattle.wh_state.specs.State.{dropped, content_in, last_of, at_id, put_at, changed_at}
use Rattle.wh_state.specs.Edits.{Edits}
use Rattle.wh_state.specs.Act.{MakesTask, PutsTask, BeginsRun, EndsTask, MakesDynamic, PutsDynamic, RefreshesRows}
use Rattle.wh_state.specs.Act.{on_task_object, on_dynamic_object}
use Rattle.wh_state.specs.Act.{Act, MakesTable, DropsObject, EditsRows, MakesStream, MovesOffset, edited_table}
use Rattle.wh_state.specs.Act.{edited_kind, edited_object, refreshed_object, moved_kind, moved_object, acted, all_acted}
use Rattle.wh_state.specs.Objects.{stream_at}
use Rattle.wh_net.specs.Stream.{rows_at}
use Rattle.wh_machine.specs.Consuming.{base_in, Extends, IsLaterKind, IsLater, AreLater}
use Rattle.wh_machine.specs.Step.{after}
use Rattle.wh_machine.proofs.Lawful.{AllMoveOn}
use Rattle.wh_state.specs.Task.{Task, with_state, with_run, with_ended}

-- ---- lists that grow

more_extends : {X : Type 0} (R : X → X → Type 0) (xs ys : List X) (y : X) → Extends R xs ys
    → Extends R xs (ys ++ y ∷ [])
more_extends R [] ys y is = tt
more_extends R (x ∷ xs) [] y is = absurd is
more_extends R (x ∷ xs) (z ∷ zs) y is = (is.0, more_extends R xs zs y is.1)

pub same_extends : {X : Type 0} (R : X → X → Type 0) → ((x : X) → R x x) → (xs : List X) → Extends R xs xs
same_extends R same [] = tt
same_extends R same (x ∷ xs) = (same x, same_extends R same xs)

pub some_same : {X : Type 0} (a b : X) → Some a ≡ Some b → a ≡ b
some_same a b same = cc

-- what changes at a place is still related to what stood there first
set_extends : {X : Type 0} (R : X → X → Type 0) (f : X → X) (xs ys : List X) (place : ℕ) (y : X)
    → slice_get ys place ≡ Some y
    → ((x : X) → slice_get xs place ≡ Some x → R x y → R x (f y))
    → Extends R xs ys → Extends R xs (slice_set ys place (f y))
set_extends R f [] ys place y there so is = tt
set_extends R f (x ∷ xs) [] place y there so is = absurd is
set_extends R f (x ∷ xs) (z ∷ zs) zero y there so is =
    (so x refl (subst (R x) (some_same z y there) is.0), is.1)
set_extends R f (x ∷ xs) (z ∷ zs) (suc place) y there so is =
    (is.0, set_extends R f xs zs place y there so is.1)

changed_extends : {X : Type 0} (R : X → X → Type 0) (f : X → X) (xs ys : List X) (id : ℕ)
    → ((x y : X) → at_id xs id ≡ Some x → R x y → R x (f y))
    → Extends R xs ys → Extends R xs (changed_at ys id f)
changed_extends R f xs ys zero so is = is
changed_extends R f xs ys (suc place) so is = by_found (slice_get ys place) refl
  where
    by_found : (found : Option _) → slice_get ys place ≡ found
        → Extends R xs (put_at ys (suc place) (option_map f found))
    by_found None there = is
    by_found (Some y) there = set_extends R f xs ys place y there (λ x at. so x y at) is

-- ---- objects

pub same_later : (stamp : ℕ) (o : Object) → IsLater stamp o o
same_later stamp o = by_kind o.kind
  where
    by_kind : (k : Kind) → IsLaterKind stamp k k
    by_kind (TableKind t) = λ time before. refl
    by_kind (StreamKind s) = record { source = refl; mode = refl; not_before = omega arith; not_behind = omega arith }
    by_kind (TaskKind t) = tt
    by_kind (DynamicKind d t) = tt

-- a version that the test leaves out
filter_more : (test : Version → Bool) (vs : List Version) (v : Version) → test v ≡ false
    → filter test (vs ++ v ∷ []) ≡ filter test vs
filter_more test [] v out = rw out
filter_more test (w ∷ vs) v out = ap (λ rest. cond (test w) (w ∷ rest) rest) (filter_more test vs v out)

edited_later : (stamp : ℕ) (e : Edits) (t : Table) (time : ℕ) → time < stamp
    → rows_at (edited_table stamp stamp e t) time ≡ rows_at t time
unfolding edited_table
edited_later stamp e t time before =
    ap (λ (vs : List Version). (content_in nothing_held (last_of vs)).rows)
    (filter_more (λ v. nat_le v.data_timestamp time) t.versions _ (lt-leb _ _ before))

-- edits of a table
edited_is_later : (stamp : ℕ) (e : Edits) (old new : Kind) → IsLaterKind stamp old new
    → IsLaterKind stamp old (edited_kind stamp stamp e new)
edited_is_later stamp e (TableKind t) (TableKind u) later =
    λ time before. edited_later stamp e u time before ∙ later time before
edited_is_later stamp e (TableKind t) (StreamKind r) later = absurd later
edited_is_later stamp e (TableKind t) (TaskKind u) later = absurd later
edited_is_later stamp e (TableKind t) (DynamicKind c u) later = absurd later
edited_is_later stamp e (StreamKind s) (TableKind u) later = absurd later
edited_is_later stamp e (StreamKind s) (StreamKind r) later = later
edited_is_later stamp e (StreamKind s) (TaskKind u) later = absurd later
edited_is_later stamp e (StreamKind s) (DynamicKind c u) later = absurd later
edited_is_later stamp e (TaskKind t) (TableKind u) later = absurd later
edited_is_later stamp e (TaskKind t) (StreamKind r) later = absurd later
edited_is_later stamp e (TaskKind t) (TaskKind u) later = tt
edited_is_later stamp e (TaskKind t) (DynamicKind c u) later = absurd later
edited_is_later stamp e (DynamicKind d t) (TableKind u) later = absurd later
edited_is_later stamp e (DynamicKind d t) (StreamKind r) later = absurd later
edited_is_later stamp e (DynamicKind d t) (TaskKind u) later = absurd later
edited_is_later stamp e (DynamicKind d t) (DynamicKind c u) later = tt

-- and those of what is no base table, whatever moment they stand for
refreshed_is_later : (stamp moment : ℕ) (e : Edits) (old new : Kind) → base_in old ≡ None → IsLaterKind stamp old new
    → IsLaterKind stamp old (edited_kind stamp moment e new)
refreshed_is_later stamp moment e (TableKind t) new none later = absurd cc
refreshed_is_later stamp moment e (StreamKind s) (TableKind u) none later = absurd later
refreshed_is_later stamp moment e (StreamKind s) (StreamKind r) none later = later
refreshed_is_later stamp moment e (StreamKind s) (TaskKind u) none later = absurd later
refreshed_is_later stamp moment e (StreamKind s) (DynamicKind c u) none later = absurd later
refreshed_is_later stamp moment e (TaskKind t) (TableKind u) none later = absurd later
refreshed_is_later stamp moment e (TaskKind t) (StreamKind r) none later = absurd later
refreshed_is_later stamp moment e (TaskKind t) (TaskKind u) none later = tt
refreshed_is_later stamp moment e (TaskKind t) (DynamicKind c u) none later = absurd later
refreshed_is_later stamp moment e (DynamicKind d t) (TableKind u) none later = absurd later
refreshed_is_later stamp moment e (DynamicKind d t) (StreamKind r) none later = absurd later
refreshed_is_later stamp moment e (DynamicKind d t) (TaskKind u) none later = absurd later
refreshed_is_later stamp moment e (DynamicKind d t) (DynamicKind c u) none later = tt

-- however a task is changed
tasked_is_later : (stamp : ℕ) (f : Task → Task) (old new : Kind) → IsLaterKind stamp old new
    → IsLaterKind stamp old (on_task f new)
tasked_is_later stamp f old (TableKind u) later = later
tasked_is_later stamp f old (StreamKind r) later = later
tasked_is_later stamp f old (DynamicKind c u) later = later
tasked_is_later stamp f (TableKind t) (TaskKind u) later = absurd later
tasked_is_later stamp f (StreamKind s) (TaskKind u) later = absurd later
tasked_is_later stamp f (TaskKind t) (TaskKind u) later = tt
tasked_is_later stamp f (DynamicKind d t) (TaskKind u) later = absurd later

-- and a dynamic table
put_is_later : (stamp : ℕ) (f : Dynamic → Dynamic) (old new : Kind) → IsLaterKind stamp old new
    → IsLaterKind stamp old (on_dynamic f new)
put_is_later stamp f old (TableKind u) later = later
put_is_later stamp f old (StreamKind r) later = later
put_is_later stamp f old (TaskKind u) later = later
put_is_later stamp f (TableKind t) (DynamicKind c u) later = absurd later
put_is_later stamp f (StreamKind s) (DynamicKind c u) later = absurd later
put_is_later stamp f (TaskKind t) (DynamicKind c u) later = absurd later
put_is_later stamp f (DynamicKind d t) (DynamicKind c u) later = tt

moved_is_later : (stamp offset : ℕ) (old new : Kind) → offset ≤ stamp - 1
    → ((s : Stream) → old ≡ StreamKind s → s.offset ≤ offset)
    → IsLaterKind stamp old new → IsLaterKind stamp old (moved_kind offset new)
moved_is_later stamp offset old (TableKind u) within on later = later
moved_is_later stamp offset old (TaskKind u) within on later = later
moved_is_later stamp offset old (DynamicKind c u) within on later = later
moved_is_later stamp offset (TableKind t) (StreamKind r) within on later = absurd later
moved_is_later stamp offset (TaskKind t) (StreamKind r) within on later = absurd later
moved_is_later stamp offset (DynamicKind d t) (StreamKind r) within on later = absurd later
moved_is_later stamp offset (StreamKind s) (StreamKind r) within on later =
    record { source = later.source; mode = later.mode; not_before = on s refl; not_behind = omega (arith, within) }

pub stream_found : (objects : List Object) (id : ℕ) (o : Object) (s : Stream) → at_id objects id ≡ Some o
    → o.kind ≡ StreamKind s → stream_at objects id ≡ Some s
stream_found objects id o s there is = rw (there, is) refl

tasked_later : (s : State) (objects : List Object) (id : ℕ) (f : Task → Task) → AreLater s.last s.objects objects
    → AreLater s.last s.objects (changed_at objects id (on_task_object f))
tasked_later s objects id f later = changed_extends (IsLater s.last) (on_task_object f) s.objects objects id
    (λ old new at is. tasked_is_later s.last f old.kind new.kind is) later

pub acts_later : (s : State) (objects : List Object) (acts : List Act) → AllMoveOn s acts
    → AreLater s.last s.objects objects
    → AreLater s.last s.objects (all_acted s.last objects acts)
acts_later s objects [] on later = later
acts_later s objects (MakesTable name columns retention ∷ acts) on later =
    acts_later s (acted s.last objects (MakesTable name columns retention)) acts on.1
    (more_extends (IsLater s.last) s.objects objects _ later)
acts_later s objects (MakesStream name source is_append_only ∷ acts) on later =
    acts_later s (acted s.last objects (MakesStream name source is_append_only)) acts on.1
    (more_extends (IsLater s.last) s.objects objects _ later)
acts_later s objects (MakesTask name minutes after runs ∷ acts) on later =
    acts_later s (acted s.last objects (MakesTask name minutes after runs)) acts on.1
    (more_extends (IsLater s.last) s.objects objects _ later)
acts_later s objects (PutsTask id state ∷ acts) on later =
    acts_later s (acted s.last objects (PutsTask id state)) acts on.1
    (tasked_later s objects id (with_state state) later)
acts_later s objects (BeginsRun root tasks ∷ acts) on later =
    acts_later s (acted s.last objects (BeginsRun root tasks)) acts on.1
    (tasked_later s objects root (with_run tasks) later)
acts_later s objects (EndsTask root task ending ∷ acts) on later =
    acts_later s (acted s.last objects (EndsTask root task ending)) acts on.1
    (tasked_later s objects root (with_ended task ending) later)
acts_later s objects (DropsObject id ∷ acts) on later =
    acts_later s (acted s.last objects (DropsObject id)) acts on.1
    (changed_extends (IsLater s.last) dropped s.objects objects id (λ old new at is. is) later)
acts_later s objects (EditsRows id e ∷ acts) on later =
    acts_later s (acted s.last objects (EditsRows id e)) acts on.1
    (changed_extends (IsLater s.last) (edited_object s.last s.last e) s.objects objects id
    (λ old new at is. edited_is_later s.last e old.kind new.kind is) later)
acts_later s objects (MakesDynamic name lag is_incremental query columns ∷ acts) on later =
    acts_later s (acted s.last objects (MakesDynamic name lag is_incremental query columns)) acts on.1
    (more_extends (IsLater s.last) s.objects objects _ later)
acts_later s objects (PutsDynamic id state ∷ acts) on later =
    acts_later s (acted s.last objects (PutsDynamic id state)) acts on.1
    (changed_extends (IsLater s.last) (on_dynamic_object (with_dynamic_state state)) s.objects objects id
    (λ old new at is. put_is_later s.last (with_dynamic_state state) old.kind new.kind is) later)
acts_later s objects (RefreshesRows id moment e c ∷ acts) on later =
    acts_later s (acted s.last objects (RefreshesRows id moment e c)) acts on.1
    (changed_extends (IsLater s.last) (refreshed_object s.last moment e c) s.objects objects id
    (λ old new at is. put_is_later s.last (with_groups c) old.kind (edited_kind s.last moment e new.kind)
    (refreshed_is_later s.last moment e old.kind new.kind
    (sym (ap (option_and_then (λ o. base_in o.kind)) at) ∙ on.0) is)) later)
acts_later s objects (MovesOffset id offset ∷ acts) on later =
    acts_later s (acted s.last objects (MovesOffset id offset)) acts on.1
    (changed_extends (IsLater s.last) (moved_object offset) s.objects objects id
    (λ old new at is. moved_is_later s.last offset old.kind new.kind on.0.0
    (λ r kind. on.0.1 r (stream_found s.objects id old r at kind)) is) later)
