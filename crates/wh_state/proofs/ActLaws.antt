-- What is written for acts means what they do.
--     edit_meant, refresh_meant   an act that edits an orderly table, and one that refreshes one
--     other_meant                 any other one
--     AreEditsFrom                edits and refreshes of tables by rising ids, with any other acts between them
--     no_edits_from, from_less    others alone, and edits from a lower id on
--     acts_meant, written_meant   these, and their commit
use Rattle.std.proofs.Common.{◌≡◌, ℕ, suc, ◌+◌, ◌<◌, ◌≤◌, List, [], ◌∷◌, ◌++◌, length, map, Option, Some, None}
use Rattle.std.proofs.Common.{option_map, refl, sym, ap, subst, ◌∙◌, arith}
use Rattle.std.specs.List.{AllByRecursion}
use Rattle.std.specs.Option.{IfSome}
use Rattle.std.proofs.lemmas.List.{length-map, map-append}
use Rattle.wh_state.specs.State.{changed_at, new_object, empty_table}
use Rattle.wh_state.specs.State.{TaskKind, DynamicKind}
use Rattle.wh_state.specs.State.{Object, Kind, at_id, with_id, put_at, dropped}
use Rattle.wh_state.specs.State.{last_of, content_in, stamped, TableKind, StreamKind}
use Rattle.wh_state.specs.Edits.{Edits}
use Rattle.wh_state.specs.Act.{MakesTask, PutsTask, BeginsRun, EndsTask, on_task_object}
use Rattle.wh_state.specs.Act.{Act, MakesTable, DropsObject, EditsRows, MakesStream, MovesOffset}
use Rattle.wh_state.specs.Act.{edited_object, moved_object, acted, all_acted, done, on_dynamic_object, MakesDynamic}
use Rattle.wh_state.specs.Act.{PutsDynamic, RefreshesRows}
use Rattle.wh_state.specs.Dynamic.{Dynamic, Kept, GroupsChange, new_dynamic, with_dynamic_state, behind_change}
use Rattle.wh_state.specs.Dynamic.{with_groups}
use Rattle.wh_state.specs.Stored.{StoredVersion, StoredTable, StoredKind, StoredObject, Stored, standing}
use Rattle.wh_state.specs.Stored.{object_meant, meant}
use Rattle.wh_state.specs.Commit.{TaskChange, CreatesTask, on_task_stored, on_dynamic_stored, DynamicChange}
use Rattle.wh_state.specs.Commit.{CreatesDynamic}
use Rattle.wh_state.specs.Commit.{Change, TableChange, StreamChange, CreatesTable, Drops, CreatesStream}
use Rattle.wh_state.specs.Commit.{SetsOffset, pushed_object, offset_set, changed, all_changed, applied}
use Rattle.wh_state.specs.Orderly.{IsOrderly, IsOrderlyVersion, IsOrderlyTable, IsOrderlyKind, IsOrderlyObject}
use Rattle.wh_state.specs.Orderly.{IsOrderlyStored}
pub use Rattle.wh_state.specs.Written.{version_change}
use Rattle.wh_state.specs.Written.{version_written, version_written_to, groups_written, act_written, written}
use Rattle.wh_state.specs.Written.{commit_for}
use Rattle.wh_state.proofs.AllLaws.{all_at}
use Rattle.wh_state.proofs.IdLaws.{map_changed, at_other, with_same, changed_same}
pub use Rattle.wh_state.proofs.NextVersion.{edited_meant}
use Rattle.wh_state.proofs.NextVersion.{edited_object_meant, edited_dynamic_meant}
use Rattle.wh_state.proofs.FoundLaws.{if_found_changed, if_found_more}
use Rattle.wh_state.proofs.KindLaws.{offset_keeps, task_keeps, dynamic_keeps}
use Rattle.wh_state.proofs.MeaningLaws.{root_meant, kept_for_meant}
use Rattle.wh_state.proofs.PlaceLaws.{changed_twice}
use Rattle.wh_state.proofs.MeaningLaws.{at_id_meant, with_id_meant, columns_meant}
use Rattle.wh_state.specs.Task.{Task, new_task, with_state, with_run, with_ended, root_by}
use Rattle.wh_state.specs.Objects.{task_at}

-- ---- acts

-- changes behind others
pub all_changed_append : (stamp : ℕ) (objects : List StoredObject) (cs ds : List Change)
    → all_changed stamp objects (cs ++ ds) ≡ all_changed stamp (all_changed stamp objects cs) ds
all_changed_append stamp objects [] ds = refl
all_changed_append stamp objects (c ∷ cs) ds = all_changed_append stamp (changed stamp objects c) cs ds

made_meant : (stamp : ℕ) (objects : List StoredObject) (c : TableChange)
    → map object_meant (changed stamp objects (CreatesTable c))
    ≡ acted stamp (map object_meant objects) (MakesTable c.name c.columns c.retention)
unfolding changed
made_meant stamp objects c = map-append object_meant objects _

stream_meant : (stamp : ℕ) (objects : List StoredObject) (c : StreamChange) → c.offset ≡ stamp
    → map object_meant (changed stamp objects (CreatesStream c))
    ≡ acted stamp (map object_meant objects) (MakesStream c.name c.source c.is_append_only)
unfolding changed
stream_meant stamp objects c is =
    let columns = columns_meant objects c.source in
    map-append object_meant objects _ ∙ rw (is, columns) refl

offset_meant : (stamp : ℕ) (objects : List StoredObject) (id offset : ℕ)
    → map object_meant (changed stamp objects (SetsOffset id offset))
    ≡ acted stamp (map object_meant objects) (MovesOffset id offset)
unfolding changed
offset_meant stamp objects id offset =
    map_changed object_meant (offset_set offset) (moved_object offset) (λ o. by_kind o o.kind) objects id
  where
    by_kind : (o : StoredObject) (k : StoredKind) → object_meant (offset_set offset (record o { kind = k }))
        ≡ moved_object offset (object_meant (record o { kind = k }))
    by_kind o (TableKind t) = refl
    by_kind o (StreamKind s) = refl
    by_kind o (TaskKind t) = refl
    by_kind o (DynamicKind d t) = refl

on_task_meant : (f : Task → Task) (objects : List StoredObject) (id : ℕ)
    → map object_meant (changed_at objects id (on_task_stored f))
    ≡ changed_at (map object_meant objects) id (on_task_object f)
on_task_meant f objects id =
    map_changed object_meant (on_task_stored f) (on_task_object f) (λ o. by_kind o o.kind) objects id
  where
    by_kind : (o : StoredObject) (k : StoredKind) → object_meant (on_task_stored f (record o { kind = k }))
        ≡ on_task_object f (object_meant (record o { kind = k }))
    by_kind o (TableKind t) = refl
    by_kind o (StreamKind s) = refl
    by_kind o (TaskKind t) = refl
    by_kind o (DynamicKind d t) = refl

on_dynamic_meant : (f : Dynamic → Dynamic) (objects : List StoredObject) (id : ℕ)
    → map object_meant (changed_at objects id (on_dynamic_stored f))
    ≡ changed_at (map object_meant objects) id (on_dynamic_object f)
on_dynamic_meant f objects id =
    map_changed object_meant (on_dynamic_stored f) (on_dynamic_object f) (λ o. by_kind o o.kind) objects id
  where
    by_kind : (o : StoredObject) (k : StoredKind) → object_meant (on_dynamic_stored f (record o { kind = k }))
        ≡ on_dynamic_object f (object_meant (record o { kind = k }))
    by_kind o (TableKind t) = refl
    by_kind o (StreamKind s) = refl
    by_kind o (TaskKind t) = refl
    by_kind o (DynamicKind d t) = refl

task_meant : (stamp : ℕ) (objects : List StoredObject) (c : TaskChange)
    → map object_meant (changed stamp objects (CreatesTask c))
    ≡ acted stamp (map object_meant objects) (MakesTask c.name c.minutes c.after c.runs)
unfolding changed
task_meant stamp objects c =
    map-append object_meant objects _
    ∙ ap (λ (root : ℕ). map object_meant objects
    ++ new_object c.name (TaskKind (new_task c.minutes c.after root c.runs)) ∷ [])
    (sym (root_meant objects (length objects + 1) c.after)
    ∙ ap (λ (n : ℕ). root_by (task_at (map object_meant objects)) (n + 1) c.after)
    (sym (length-map objects object_meant)))

dynamic_meant : (stamp : ℕ) (objects : List StoredObject) (c : DynamicChange)
    → map object_meant (changed stamp objects (CreatesDynamic c))
    ≡ acted stamp (map object_meant objects) (MakesDynamic c.name c.lag c.is_incremental c.query c.columns)
unfolding changed
dynamic_meant stamp objects c =
    map-append object_meant objects _
    ∙ ap (λ (kept : Option Kept). map object_meant objects ++ new_object c.name
    (DynamicKind (new_dynamic c.lag c.is_incremental kept c.query) (empty_table c.columns stamp)) ∷ [])
    (sym (kept_for_meant objects c.is_incremental c.query))

dropped_meant : (stamp : ℕ) (objects : List StoredObject) (id : ℕ)
    → map object_meant (changed stamp objects (Drops id)) ≡ acted stamp (map object_meant objects) (DropsObject id)
unfolding changed
dropped_meant stamp objects id = map_changed object_meant dropped dropped (λ o. refl) objects id

edits_meant : (stamp moment id : ℕ) (e : Edits) (objects : List StoredObject) (o : StoredObject) (t : StoredTable)
    → at_id objects id ≡ Some o
    → object_meant (pushed_object stamp (version_change moment id e t) o)
    ≡ edited_object stamp moment e (object_meant o)
    → map object_meant (changed stamp objects (version_written moment id e t))
    ≡ with_id (map object_meant objects) id (edited_object stamp moment e (object_meant o))
unfolding changed
edits_meant stamp moment id e objects o t there same =
    ap (λ (found : Option StoredObject). map object_meant
    (put_at objects id (option_map (pushed_object stamp (version_change moment id e t)) found))) there
    ∙ with_id_meant objects id (pushed_object stamp (version_change moment id e t) o)
    ∙ ap (with_id (map object_meant objects) id) same

-- what is edited is orderly, if there is anything
abbrev pub OrderlyAt : Option StoredObject → Type 0
OrderlyAt found = IfSome found IsOrderlyObject

-- what stands is orderly
pub orderly_standing : (t : StoredTable) → IsOrderlyTable t → IsOrderly (standing t)
orderly_standing t orderly = of_last t.versions orderly
  where
    of_last : (versions : List StoredVersion) → AllByRecursion IsOrderlyVersion versions
        → IsOrderly (content_in [] (last_of versions))
    of_last [] all = record { numbers = tt; rows = tt; apart = tt }
    of_last (v ∷ []) all = all.0
    of_last (v ∷ w ∷ vs) all = of_last (w ∷ vs) all.1

-- the edits of a table
edit_meant : (stamp moment : ℕ) (objects : List StoredObject) (id : ℕ) (e : Edits) → OrderlyAt (at_id objects id)
    → map object_meant (all_changed stamp objects (version_written_to moment id e (at_id objects id)))
    ≡ changed_at (map object_meant objects) id (edited_object stamp moment e)
edit_meant stamp moment objects id e orderly =
    by_found (at_id objects id) refl orderly
    ∙ ap (λ (found : Option Object). put_at (map object_meant objects) id
    (option_map (edited_object stamp moment e) found))
    (sym (at_id_meant objects id))
  where
    by_kind : (o : StoredObject) (k : StoredKind) → at_id objects id ≡ Some o → o.kind ≡ k → IsOrderlyKind k
        → map object_meant (all_changed stamp objects (version_written_to moment id e (Some o)))
        ≡ with_id (map object_meant objects) id (edited_object stamp moment e (object_meant o))
    by_kind o (TableKind t) there is orderly =
        let edited : map object_meant (changed stamp objects (version_written moment id e t))
        ≡ with_id (map object_meant objects) id (edited_object stamp moment e (object_meant o)) =
        edits_meant stamp moment id e objects o t there
        (edited_object_meant stamp moment id e o t is (orderly_standing t orderly)) in
        rw is (rw is at edited)
    by_kind o (StreamKind s) there is orderly =
        rw is (sym (with_same (map object_meant objects) id (object_meant o)
        (at_id_meant objects id ∙ ap (option_map object_meant) there))
        ∙ ap (with_id (map object_meant objects) id) (rw is refl))
    by_kind o (TaskKind t) there is orderly =
        rw is (sym (with_same (map object_meant objects) id (object_meant o)
        (at_id_meant objects id ∙ ap (option_map object_meant) there))
        ∙ ap (with_id (map object_meant objects) id) (rw is refl))
    by_kind o (DynamicKind d t) there is orderly =
        let edited : map object_meant (changed stamp objects (version_written moment id e t))
        ≡ with_id (map object_meant objects) id (edited_object stamp moment e (object_meant o)) =
        edits_meant stamp moment id e objects o t there
        (edited_dynamic_meant stamp moment id e o d t is (orderly_standing t orderly)) in
        rw is (rw is at edited)

    by_found : (found : Option StoredObject) → at_id objects id ≡ found → OrderlyAt found
        → map object_meant (all_changed stamp objects (version_written_to moment id e found))
        ≡ put_at (map object_meant objects) id
        (option_map (edited_object stamp moment e) (option_map object_meant found))
    by_found None none orderly = refl
    by_found (Some o) there orderly = by_kind o o.kind there refl orderly

-- what is done to groups behind a version
groups_meant : (stamp : ℕ) (objects : List StoredObject) (id : ℕ) (c : Option GroupsChange)
    → map object_meant (all_changed stamp objects (groups_written id c))
    ≡ changed_at (map object_meant objects) id (on_dynamic_object (with_groups c))
unfolding changed
groups_meant stamp objects id (Some c) = on_dynamic_meant (behind_change c) objects id
groups_meant stamp objects id None =
    sym (changed_same (on_dynamic_object (with_groups None)) (λ o. by_kind o o.kind) (map object_meant objects) id)
  where
    by_kind : (o : Object) (k : Kind)
        → on_dynamic_object (with_groups None) (record o { kind = k }) ≡ record o { kind = k }
    by_kind o (TableKind t) = refl
    by_kind o (StreamKind s) = refl
    by_kind o (TaskKind t) = refl
    by_kind o (DynamicKind d t) = refl

-- the refresh of a dynamic table
refresh_meant : (stamp moment : ℕ) (objects : List StoredObject) (id : ℕ) (e : Edits) (c : Option GroupsChange)
    → OrderlyAt (at_id objects id)
    → map object_meant (all_changed stamp objects (act_written stamp objects (RefreshesRows id moment e c)))
    ≡ acted stamp (map object_meant objects) (RefreshesRows id moment e c)
refresh_meant stamp moment objects id e c orderly =
    let version : List Change = version_written_to moment id e (at_id objects id) in
    ap (map object_meant) (all_changed_append stamp objects version (groups_written id c))
    ∙ groups_meant stamp (all_changed stamp objects version) id c
    ∙ ap (λ (os : List Object). changed_at os id (on_dynamic_object (with_groups c)))
    (edit_meant stamp moment objects id e orderly)
    ∙ changed_twice (edited_object stamp moment e) (on_dynamic_object (with_groups c)) (map object_meant objects) id

-- an act that makes no version of a table
abbrev pub IsNoEdit : Act → Type 0
IsNoEdit (EditsRows id e) = ⊥
IsNoEdit (RefreshesRows id moment e c) = ⊥
IsNoEdit _ = Unit {0}

other_meant : (stamp : ℕ) (objects : List StoredObject) (act : Act) → IsNoEdit act
    → map object_meant (all_changed stamp objects (act_written stamp objects act))
    ≡ acted stamp (map object_meant objects) act
unfolding changed
other_meant stamp objects (EditsRows id e) other = absurd other
other_meant stamp objects (MakesTable name columns retention) other =
    made_meant stamp objects (record { id = length objects + 1; name = name; retention = retention; columns = columns })
other_meant stamp objects (DropsObject id) other = dropped_meant stamp objects id
other_meant stamp objects (MakesStream name source is_append_only) other = stream_meant stamp objects (record {
  id = length objects + 1;
  name = name;
  source = source;
  is_append_only = is_append_only;
  offset = stamp;
}) refl
other_meant stamp objects (MovesOffset id offset) other = offset_meant stamp objects id offset
other_meant stamp objects (MakesTask name minutes after runs) other = task_meant stamp objects
    (record { id = length objects + 1; name = name; minutes = minutes; after = after; runs = runs })
other_meant stamp objects (PutsTask id state) other = on_task_meant (with_state state) objects id
other_meant stamp objects (BeginsRun root tasks) other = on_task_meant (with_run tasks) objects root
other_meant stamp objects (EndsTask root task ending) other = on_task_meant (with_ended task ending) objects root
other_meant stamp objects (MakesDynamic name lag is_incremental query columns) other =
    dynamic_meant stamp objects (record {
      id = length objects + 1;
      name = name;
      lag = lag;
      is_incremental = is_incremental;
      query = query;
      columns = columns;
    })
other_meant stamp objects (PutsDynamic id state) other = on_dynamic_meant (with_dynamic_state state) objects id
other_meant stamp objects (RefreshesRows id moment e c) other = absurd other

-- ---- the acts of a commit

-- offsets that move
abbrev pub AreMoves : List Act → Type 0
AreMoves [] = Unit {0}
AreMoves (MovesOffset id offset ∷ acts) = AreMoves acts
AreMoves _ = ⊥

abbrev pub AreNoEdits : List Act → Type 0
AreNoEdits acts = AllByRecursion IsNoEdit acts

-- edits and refreshes of tables by rising ids, from that id on, with others between them
pub data AreEditsFrom : ℕ → List Act → Type 0 where
  no_more_edits : {least : ℕ} → AreEditsFrom least []
  other_act : {least : ℕ} {act : Act} {acts : List Act} → IsNoEdit act → AreEditsFrom least acts
      → AreEditsFrom least (act ∷ acts)
  next_edit : {least id : ℕ} {e : Edits} {acts : List Act} → least ≤ id → AreEditsFrom (suc id) acts
      → AreEditsFrom least (EditsRows id e ∷ acts)
  next_refresh : {least id moment : ℕ} {e : Edits} {c : Option GroupsChange} {acts : List Act} → least ≤ id
      → AreEditsFrom (suc id) acts → AreEditsFrom least (RefreshesRows id moment e c ∷ acts)

pub no_edits_from : (least : ℕ) (acts : List Act) → AreNoEdits acts → AreEditsFrom least acts
no_edits_from least [] are = no_more_edits
no_edits_from least (act ∷ acts) are = other_act are.0 (no_edits_from least acts are.1)

pub from_less : (least more : ℕ) (acts : List Act) → least ≤ more → AreEditsFrom more acts → AreEditsFrom least acts
from_less least more [] h no_more_edits = no_more_edits
from_less least more (act ∷ acts) h (other_act other rising) = other_act other (from_less least more acts h rising)
from_less least more (EditsRows id e ∷ acts) h (next_edit from rising) = next_edit (omega (arith, from)) rising
from_less least more (RefreshesRows id moment e c ∷ acts) h (next_refresh from rising) =
    next_refresh (omega (arith, from)) rising

-- an act, and then others
more_meant : (stamp : ℕ) (objects : List StoredObject) (act : Act) (acts : List Act)
    → map object_meant (all_changed stamp objects (act_written stamp objects act))
    ≡ acted stamp (map object_meant objects) act
    → ((first : List StoredObject) → first ≡ all_changed stamp objects (act_written stamp objects act)
    → map object_meant (all_changed stamp first (written stamp first acts))
    ≡ all_acted stamp (map object_meant first) acts)
    → map object_meant (all_changed stamp objects (written stamp objects (act ∷ acts)))
    ≡ all_acted stamp (map object_meant objects) (act ∷ acts)
more_meant stamp objects act acts here rest =
    let first : List StoredObject = all_changed stamp objects (act_written stamp objects act) in
    ap (map object_meant) (all_changed_append stamp objects (act_written stamp objects act) (written stamp first acts))
    ∙ rest first refl ∙ ap (λ (l : List Object). all_acted stamp l acts) here

-- what is written for a version of a table leaves what stands behind it
pub version_leaves : (stamp moment id : ℕ) (e : Edits) (objects : List StoredObject) (later : ℕ) → id < later
    → at_id (all_changed stamp objects (version_written_to moment id e (at_id objects id))) later ≡ at_id objects later
unfolding changed
version_leaves stamp moment id e objects later h = by_found (at_id objects id)
  where
    by_kind : (o : StoredObject) (k : StoredKind)
        → at_id (all_changed stamp objects (version_written_to moment id e (Some (record o { kind = k })))) later
        ≡ at_id objects later
    by_kind o (TableKind t) = at_other (pushed_object stamp (version_change moment id e t)) objects id later h
    by_kind o (StreamKind s) = refl
    by_kind o (TaskKind t) = refl
    by_kind o (DynamicKind d t) = at_other (pushed_object stamp (version_change moment id e t)) objects id later h

    by_found : (found : Option StoredObject)
        → at_id (all_changed stamp objects (version_written_to moment id e found)) later ≡ at_id objects later
    by_found None = refl
    by_found (Some o) = by_kind o o.kind

pub edit_leaves : (stamp id : ℕ) (e : Edits) (objects : List StoredObject) (later : ℕ) → id < later
    → at_id (all_changed stamp objects (act_written stamp objects (EditsRows id e))) later ≡ at_id objects later
edit_leaves stamp id e objects later h = version_leaves stamp stamp id e objects later h

-- and so does what is written for a refresh
pub refresh_leaves : (stamp moment id : ℕ) (e : Edits) (c : Option GroupsChange) (objects : List StoredObject)
    → (later : ℕ) → id < later
    → at_id (all_changed stamp objects (act_written stamp objects (RefreshesRows id moment e c))) later
    ≡ at_id objects later
unfolding changed
refresh_leaves stamp moment id e c objects later h =
    ap (λ (os : List StoredObject). at_id os later) (all_changed_append stamp objects version (groups_written id c))
    ∙ by_groups c ∙ version_leaves stamp moment id e objects later h
  where
    version : List Change
    version = version_written_to moment id e (at_id objects id)

    by_groups : (c : Option GroupsChange)
        → at_id (all_changed stamp (all_changed stamp objects version) (groups_written id c)) later
        ≡ at_id (all_changed stamp objects version) later
    by_groups None = refl
    by_groups (Some c) = at_other (on_dynamic_stored (behind_change c)) (all_changed stamp objects version) id later h

-- ---- what is orderly from an id on stays so

abbrev pub OrderlyFrom : ℕ → List StoredObject → Type 0
OrderlyFrom least objects = (id : ℕ) → least ≤ id → OrderlyAt (at_id objects id)

more_orderly : (least : ℕ) (objects : List StoredObject) (o : StoredObject) → IsOrderlyObject o
    → OrderlyFrom least objects → OrderlyFrom least (objects ++ o ∷ [])
more_orderly least objects o new orderly id h = if_found_more IsOrderlyObject objects o id new (orderly id h)

changed_orderly : (f : StoredObject → StoredObject) → ((o : StoredObject) → IsOrderlyObject o → IsOrderlyObject (f o))
    → (least : ℕ) (objects : List StoredObject) (id : ℕ) → OrderlyFrom least objects
    → OrderlyFrom least (changed_at objects id f)
changed_orderly f keeps least objects id orderly other h =
    if_found_changed IsOrderlyObject f keeps objects id other (orderly other h)

task_orderly : (f : Task → Task) (least : ℕ) (objects : List StoredObject) (id : ℕ) → OrderlyFrom least objects
    → OrderlyFrom least (changed_at objects id (on_task_stored f))
task_orderly f = changed_orderly (on_task_stored f) (λ o h. task_keeps IsOrderlyKind f (λ t h. tt) o.kind h)

other_orderly : (stamp least : ℕ) (objects : List StoredObject) (act : Act) → IsNoEdit act → OrderlyFrom least objects
    → OrderlyFrom least (all_changed stamp objects (act_written stamp objects act))
unfolding changed
other_orderly stamp least objects (EditsRows id e) other orderly = absurd other
other_orderly stamp least objects (RefreshesRows id moment e c) other orderly = absurd other
other_orderly stamp least objects (MakesTable name columns retention) other orderly =
    more_orderly least objects _ (record { numbers = tt; rows = tt; apart = tt }, tt) orderly
other_orderly stamp least objects (DropsObject id) other orderly =
    changed_orderly dropped (λ o h. h) least objects id orderly
other_orderly stamp least objects (MakesStream name source is_append_only) other orderly =
    more_orderly least objects _ tt orderly
other_orderly stamp least objects (MovesOffset id offset) other orderly =
    changed_orderly (offset_set offset) (λ o h. offset_keeps IsOrderlyKind offset (λ s h. tt) o.kind h)
    least objects id orderly
other_orderly stamp least objects (MakesTask name minutes after runs) other orderly =
    more_orderly least objects _ tt orderly
other_orderly stamp least objects (PutsTask id state) other orderly =
    task_orderly (with_state state) least objects id orderly
other_orderly stamp least objects (BeginsRun root tasks) other orderly =
    task_orderly (with_run tasks) least objects root orderly
other_orderly stamp least objects (EndsTask root task ending) other orderly =
    task_orderly (with_ended task ending) least objects root orderly
other_orderly stamp least objects (MakesDynamic name lag is_incremental query columns) other orderly =
    more_orderly least objects _ tt orderly
other_orderly stamp least objects (PutsDynamic id state) other orderly =
    changed_orderly (on_dynamic_stored (with_dynamic_state state))
    (λ o h. dynamic_keeps IsOrderlyKind (with_dynamic_state state) (λ d t h. h) o.kind h) least objects id orderly

-- behind what leaves the objects of later ids
later_orderly : (least id : ℕ) (objects new : List StoredObject) → least ≤ id
    → ((later : ℕ) → id < later → at_id new later ≡ at_id objects later) → OrderlyFrom least objects
    → OrderlyFrom (suc id) new
later_orderly least id objects new from leaves orderly later h =
    subst OrderlyAt (sym (leaves later (omega arith))) (orderly later (omega (arith, from)))

acts_meant : (stamp least : ℕ) (objects : List StoredObject) (acts : List Act) → AreEditsFrom least acts
    → OrderlyFrom least objects
    → map object_meant (all_changed stamp objects (written stamp objects acts))
    ≡ all_acted stamp (map object_meant objects) acts
acts_meant stamp least objects [] no_more_edits orderly = refl
acts_meant stamp least objects (act ∷ acts) (other_act other rising) orderly =
    more_meant stamp objects act acts (other_meant stamp objects act other) (λ first is.
    acts_meant stamp least first acts rising
    (subst (OrderlyFrom least) (sym is) (other_orderly stamp least objects act other orderly)))
acts_meant stamp least objects (EditsRows id e ∷ acts) (next_edit from rising) orderly =
    more_meant stamp objects (EditsRows id e) acts (edit_meant stamp stamp objects id e (orderly id from)) (λ first is.
    acts_meant stamp (suc id) first acts rising
    (subst (OrderlyFrom (suc id)) (sym is)
    (later_orderly least id objects _ from (edit_leaves stamp id e objects) orderly)))
acts_meant stamp least objects (RefreshesRows id moment e c ∷ acts) (next_refresh from rising) orderly =
    more_meant stamp objects (RefreshesRows id moment e c) acts
    (refresh_meant stamp moment objects id e c (orderly id from)) (λ first is.
    acts_meant stamp (suc id) first acts rising
    (subst (OrderlyFrom (suc id)) (sym is)
    (later_orderly least id objects _ from (refresh_leaves stamp moment id e c objects) orderly)))

orderly_from : (s : Stored) → IsOrderlyStored s → OrderlyFrom 0 s.objects
orderly_from s orderly id h = by_found (at_id s.objects id) refl
  where
    by_found : (found : Option StoredObject) → at_id s.objects id ≡ found → OrderlyAt found
    by_found None none = tt
    by_found (Some o) there = all_at IsOrderlyObject s.objects id o orderly there

-- over an orderly file, what is written for such acts means what they do
pub written_meant : (s : Stored) (stamp : ℕ) (acts : List Act) → AreEditsFrom 0 acts → IsOrderlyStored s
    → meant (applied s (commit_for s stamp acts)) ≡ done (stamped (meant s) stamp) acts
written_meant s stamp acts shape orderly =
    ap (λ (objects : List Object). record { last = stamp; committed = stamp; objects = objects })
    (acts_meant stamp 0 s.objects acts shape (orderly_from s orderly))
