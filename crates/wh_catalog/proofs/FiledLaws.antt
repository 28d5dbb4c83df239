-- Partitions as they stand in the file, and which of them are among others.
--     among_self, among_trans              the same ones; those among others that are among more
--     among_front, among_behind            the first and the last ones of a list
--     among_both, among_less, among_more   with others, without those behind, with those that a change adds
--     object_among, table_among            those of one object, and of its table
--     table_under                          those of the table of an id
--     set_among, set_same                  an object in another's place that has more, and one that has the same
--     filed_with                           with an object that has none
--     steady_filed                         a step that changed none of them
--     among_steady, among_same             what a call leaves at Ok
use Rattle.std.proofs.Common.{◌≡◌, ℕ, zero, suc, ◌<◌, Bool, true, false, List, [], ◌∷◌, ◌++◌, map, length, set, get_or}
use Rattle.std.proofs.Common.{Option, Some, None, option_map, Ok, Err, refl, sym, ap, subst, ◌∙◌, arith}
use Rattle.std.specs.Prelude.{Result, IfOk, IfSome, OnOk, nat_lt, ◌&&◌, if◌then◌else◌}
use Rattle.std.specs.List.{flat_map}
use Rattle.std.proofs.lemmas.List.Folds.{flat_map-map}
use Rattle.wh_value.specs.Limit.{bound}
use Rattle.wh_value.specs.declared.limit.Limit.TheVariants as limits
use Rattle.wh_filed.specs.Filed.{Filed, AllShown, AreAmong}
use Rattle.wh_filed.proofs.ShownLaws.{shown_append, shown_front, shown_behind}
use Rattle.wh_state.specs.State.{TableKind, StreamKind, TaskKind, DynamicKind, Stream, on_stream, on_task, on_dynamic}
use Rattle.wh_state.specs.State.{at_id, put_at, changed_at, with_offset, live_count}
use Rattle.wh_group.specs.declared.groups.Before.{Before}
use Rattle.wh_state.specs.Task.{Task, with_state}
use Rattle.wh_state.specs.Dynamic.{Dynamic, with_dynamic_state}
use Rattle.wh_state.proofs.IdLaws.{map_changed, with_same}
use Rattle.wh_task.specs.View.{state_of, run_of}
use Rattle.wh_dynamic.specs.View as dynamics
use denote.Ref.{Bor}
use Rattle.wh_table.specs.declared.fault.StageFault.{StageFault}
use Rattle.wh_table.specs.declared.table.StoredTable.{StoredTable}
use Rattle.wh_table.specs.Table as tables
use Rattle.wh_catalog.specs.declared.object.StoredObject.{StoredObject}
use Rattle.wh_catalog.specs.declared.undo.Step.{Step}
use Rattle.wh_catalog.specs.declared.undo.Step.TheVariants.{MadeObject, DroppedObject, PushedVersion, SetOffset}
use Rattle.wh_catalog.specs.declared.undo.Step.TheVariants.{SetTask, SetRun, SetDynamic, SetGroups}
use Rattle.wh_catalog.specs.Undoable.{KeptKind, KeptObject}
use Rattle.wh_catalog.specs.Object.{kept_object, filed_in_kind, filed_in_kept, filed_of_objects, IsPlaceOf}
use Rattle.wh_catalog.specs.Catalog.{filed_in_object}
use Rattle.wh_catalog.specs.Names.{is_last}
use Rattle.wh_catalog.specs.Back.{object_put_back, on_task_kept, holding, on_dynamic_kept, alive}
use Rattle.wh_catalog.specs.Back.{kind_regrouped, object_regrouped}
use Rattle.wh_catalog.specs.Undo.{step_undone, IsSteady}

-- ---- lists among others

pub among_self : (xs ys : List Filed) → xs ≡ ys → AreAmong xs ys
among_self xs ys is told all = subst (AllShown told) (sym is) all

pub among_trans : (xs ys zs : List Filed) → AreAmong xs ys → AreAmong ys zs → AreAmong xs zs
among_trans xs ys zs first second told all = first told (second told all)

pub among_front : (xs ys : List Filed) → AreAmong xs (xs ++ ys)
among_front xs ys told all = shown_front told xs ys all

pub among_behind : (xs ys : List Filed) → AreAmong ys (xs ++ ys)
among_behind xs ys told all = shown_behind told xs ys all

pub among_both : (xs ys zs : List Filed) → AreAmong xs zs → AreAmong ys zs → AreAmong (xs ++ ys) zs
among_both xs ys zs first second told all = shown_append told xs ys (first told all) (second told all)

pub among_less : (xs ys zs : List Filed) → AreAmong (xs ++ ys) zs → AreAmong xs zs
among_less xs ys zs both told all = shown_front told xs ys (both told all)

pub among_more : (old new one rest all : List Filed) → AreAmong new (old ++ one) → AreAmong (old ++ (one ++ rest)) all
    → AreAmong (new ++ rest) all
among_more old new one rest all here so_far told shown =
    let each = so_far told shown in
    let behind = shown_behind told old (one ++ rest) each in
    let front = shown_append told old one (shown_front told old (one ++ rest) each) (shown_front told one rest behind) in
    shown_append told new rest (here told front) (shown_behind told one rest behind)

-- ---- those of objects

abbrev filed_one : StoredObject → List Filed
filed_one o = filed_in_kind (kept_object o).kind

object_at : (xs : List StoredObject) (i : ℕ) (o : StoredObject) → i < length xs → o ≡ get_or xs i o
    → AreAmong (filed_one o) (filed_of_objects xs)
object_at [] i o within is told all = absurd (omega arith)
object_at (x ∷ xs) zero o within is told all = subst (λ (q : StoredObject). AllShown told (filed_one q)) (sym is)
    (shown_front told (filed_one x) (filed_of_objects xs) all)
object_at (x ∷ xs) (suc i) o within is told all =
    object_at xs i o (omega arith) is told (shown_behind told (filed_one x) (filed_of_objects xs) all)

set_at : (xs : List StoredObject) (i : ℕ) (old new : StoredObject) (more : List Filed) → i < length xs
    → old ≡ get_or xs i old → filed_one new ≡ filed_one old ++ more
    → AreAmong (filed_of_objects (set xs i new)) (filed_of_objects xs ++ more)
set_at [] i old new more within is same told all = absurd (omega arith)
set_at (x ∷ xs) zero old new more within is same told all =
    let before = shown_front told (filed_of_objects (x ∷ xs)) more all in
    let own = shown_front told (filed_one x) (filed_of_objects xs) before in
    let kept = subst (λ (q : StoredObject). AllShown told (filed_one q)) (sym is) own in
    let added = shown_behind told (filed_of_objects (x ∷ xs)) more all in
    shown_append told (filed_one new) (filed_of_objects xs)
    (subst (AllShown told) (sym same) (shown_append told (filed_one old) more kept added))
    (shown_behind told (filed_one x) (filed_of_objects xs) before)
set_at (x ∷ xs) (suc i) old new more within is same told all =
    let before = shown_front told (filed_of_objects (x ∷ xs)) more all in
    let added = shown_behind told (filed_of_objects (x ∷ xs)) more all in
    let behind = shown_behind told (filed_one x) (filed_of_objects xs) before in
    shown_append told (filed_one x) (filed_of_objects (set xs i new))
    (shown_front told (filed_one x) (filed_of_objects xs) before)
    (set_at xs i old new more (omega arith) is same told (shown_append told (filed_of_objects xs) more behind added))

same_at : (xs : List StoredObject) (i : ℕ) (old new : StoredObject) → old ≡ get_or xs i old
    → filed_one new ≡ filed_one old → filed_of_objects (set xs i new) ≡ filed_of_objects xs
same_at [] i old new is same = refl
same_at (x ∷ xs) zero old new is same =
    ap (λ (l : List Filed). l ++ filed_of_objects xs) (same ∙ ap filed_one is)
same_at (x ∷ xs) (suc i) old new is same =
    ap (λ (l : List Filed). filed_one x ++ l) (same_at xs i old new is same)

module _ {xs : List StoredObject} {id place : ℕ} {old : StoredObject} (at : IsPlaceOf id xs place)
    (is : old ≡ get_or xs place old) where
  pub object_among : AreAmong (filed_of_objects (old ∷ [])) (filed_of_objects xs)
  object_among told all = shown_append told (filed_one old) [] (object_at xs place old at.within is told all) tt

  pub set_among : (new : StoredObject) (more : List Filed) → filed_one new ≡ filed_one old ++ more
      → AreAmong (filed_of_objects (set xs place new)) (filed_of_objects xs ++ more)
  set_among new more same = set_at xs place old new more at.within is same

  pub set_same : (new : StoredObject) → filed_one new ≡ filed_one old
      → filed_of_objects (set xs place new) ≡ filed_of_objects xs
  set_same new same = same_at xs place old new is same

-- the table of an object
pub table_among : (found : Option (Bor StoredTable)) (o : StoredObject) (all : List Filed)
    → IfSome found (λ t. tables.filed_of t.now ≡ filed_one o) → AreAmong (filed_of_objects (o ∷ [])) all
    → IfSome found (λ t. AreAmong (tables.filed_of t.now) all)
table_among None o all same among = tt
table_among (Some t) o all same among =
    λ told shown. subst (AllShown told) (sym same) (shown_front told (filed_one o) [] (among told shown))

pub table_under : (found : Option (Bor StoredTable)) (o : KeptObject) (under : Option KeptObject) → Some o ≡ under
    → IfSome found (λ t. tables.filed_of t.now ≡ filed_in_kind o.kind)
    → IfSome found (λ t. tables.filed_of t.now ≡ filed_in_object under)
table_under found o under is same =
    subst (λ (u : Option KeptObject). IfSome found (λ t. tables.filed_of t.now ≡ filed_in_object u)) is same

pub filed_with : (xs : List StoredObject) (o : StoredObject) → filed_one o ≡ []
    → filed_of_objects (xs ++ o ∷ []) ≡ filed_of_objects xs
filed_with [] o none = ap (λ (l : List Filed). l ++ []) none
filed_with (x ∷ xs) o none = ap (λ (l : List Filed). filed_one x ++ l) (filed_with xs o none)

-- ---- steps

unchanged : {X : Type 0} (xs : List X) (id : ℕ) → changed_at xs id (λ x. x) ≡ xs
unchanged {X} xs id = by (at_id xs id) refl
  where
    by : (found : Option X) → at_id xs id ≡ found → put_at xs id (option_map (λ x. x) found) ≡ xs
    by None is = refl
    by (Some x) is = with_same xs id x is

abbrev filed_kept : KeptObject → List Filed
filed_kept o = filed_in_kind o.kind

joined : (xs : List KeptObject) → filed_in_kept xs ≡ flat_map (λ (l : List Filed). l) (map filed_kept xs)
joined xs = sym (flat_map-map (λ (l : List Filed). l) filed_kept xs)

changed_same : (g : KeptObject → KeptObject) → ((o : KeptObject) → filed_kept (g o) ≡ filed_kept o)
    → (id : ℕ) (xs : List KeptObject) → filed_in_kept (changed_at xs id g) ≡ filed_in_kept xs
changed_same g same id xs =
    joined (changed_at xs id g)
    ∙ ap (flat_map (λ (l : List Filed). l))
    (map_changed filed_kept g (λ l. l) same xs id ∙ unchanged (map filed_kept xs) id)
    ∙ sym (joined xs)

on_streams : (f : Stream → Stream) (k : KeptKind) → filed_in_kind (on_stream f k) ≡ filed_in_kind k
on_streams f (TableKind t) = refl
on_streams f (StreamKind s) = refl
on_streams f (TaskKind t) = refl
on_streams f (DynamicKind d t) = refl

on_tasks : (f : Task → Task) (k : KeptKind) → filed_in_kind (on_task f k) ≡ filed_in_kind k
on_tasks f (TableKind t) = refl
on_tasks f (StreamKind s) = refl
on_tasks f (TaskKind t) = refl
on_tasks f (DynamicKind d t) = refl

on_dynamics : (f : Dynamic → Dynamic) (k : KeptKind) → filed_in_kind (on_dynamic f k) ≡ filed_in_kind k
on_dynamics f (TableKind t) = refl
on_dynamics f (StreamKind s) = refl
on_dynamics f (TaskKind t) = refl
on_dynamics f (DynamicKind d t) = refl

regrouped : (was : Before) (k : KeptKind) → filed_in_kind (kind_regrouped was k) ≡ filed_in_kind k
regrouped was (TableKind t) = refl
regrouped was (StreamKind s) = refl
regrouped was (TaskKind t) = refl
regrouped was (DynamicKind d t) = refl

pub steady_filed : (step : Step) → IsSteady step → (xs : List KeptObject)
    → filed_in_kept (step_undone step xs) ≡ filed_in_kept xs
steady_filed MadeObject never xs = absurd never
steady_filed (PushedVersion p) never xs = absurd never
steady_filed (DroppedObject id) steady xs =
    by (nat_lt (live_count xs) (bound limits.Objects) && is_last id (map (λ o. o.name) xs))
  where
    by : (b : Bool) → filed_in_kept (if b then changed_at xs id alive else xs) ≡ filed_in_kept xs
    by true = changed_same alive (λ o. refl) id xs
    by false = refl
steady_filed (SetOffset id offset) steady xs =
    changed_same (object_put_back offset) (λ o. on_streams (with_offset offset) o.kind) id xs
steady_filed (SetTask id state) steady xs =
    changed_same (on_task_kept (with_state (state_of state))) (λ o. on_tasks (with_state (state_of state)) o.kind) id xs
steady_filed (SetRun root run) steady xs =
    changed_same (on_task_kept (holding (run_of run.items))) (λ o. on_tasks (holding (run_of run.items)) o.kind) root xs
steady_filed (SetDynamic id state) steady xs =
    changed_same (on_dynamic_kept (with_dynamic_state (dynamics.state_of state)))
    (λ o. on_dynamics (with_dynamic_state (dynamics.state_of state)) o.kind) id xs
steady_filed (SetGroups id was) steady xs =
    changed_same (object_regrouped was) (λ o. regrouped was o.kind) id xs

-- ---- what a call leaves at Ok

pub among_same : (r : Result Step StageFault) (old new more : List Filed) → OnOk r (new ≡ old)
    → OnOk r (AreAmong new (old ++ more))
among_same (Ok step) old new more same =
    λ told all. subst (AllShown told) (sym same) (shown_front told old more all)
among_same (Err fault) old new more same = tt

pub among_steady : (r : Result Step StageFault) (old new : List KeptObject) (more : List Filed) → IfOk r IsSteady
    → IfOk r (λ step. step_undone step new ≡ old)
    → OnOk r (AreAmong (filed_in_kept new) (filed_in_kept old ++ more))
among_steady (Ok step) old new more steady back =
    among_same (Ok step) (filed_in_kept old) (filed_in_kept new) more
    (sym (steady_filed step steady new) ∙ ap filed_in_kept back)
among_steady (Err fault) old new more steady back = tt
