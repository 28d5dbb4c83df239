-- What is written for the acts of a commit applies.
--     AllGo, go_firm               changes that apply one after the other, with rows that rise and groups that follow
--     go_append, go_none, go_first     several of them, none, and one before others
--     EditsApply, IsBase, TakesMove    what edits and moves of offsets need
--     base_meant                       a table, where one is meant
--     version_fits, version_due, version_rises     a version of a table
--     ActStands                    so for each act of a commit of edits and moves
--     acts_go                      what is written for them applies
--     found_through                what stands at an id that no change drops
use Rattle.std.proofs.Common.{◌≡◌, ℕ, suc, ◌+◌, ◌<◌, ◌≤◌, List, [], ◌∷◌, ◌++◌, length, Option, Some, None}
use Rattle.std.proofs.Common.{map, option_map, refl, sym, ap, subst, arith, IsTrue, false, cond}
use Rattle.std.specs.Prelude.{is_some}
use Rattle.std.specs.List.{AllByRecursion}
use Rattle.std.specs.Option.{IsSomeAnd, option_and_then, option_map_or}
use Rattle.wh_value.specs.Limit.{bound}
use Rattle.wh_value.specs.declared.limit.Limit.TheVariants as limits
use Rattle.wh_state.specs.State.{TaskKind, DynamicKind}
use Rattle.wh_state.specs.State.{Object, dropped, last_of, at_id}
use Rattle.wh_state.specs.State.{TableKind, StreamKind, table_in, dynamic_in}
use Rattle.wh_state.specs.Objects.{is_table, as_dynamic}
use Rattle.wh_state.specs.Edits.{Edits, partitions_made}
use Rattle.wh_state.specs.Act.{MakesTask, PutsTask, BeginsRun, EndsTask, MakesDynamic, PutsDynamic, RefreshesRows}
use Rattle.wh_state.specs.Dynamic.{Dynamic, with_dynamic_state, behind_change}
use Rattle.wh_state.specs.Commit.{CreatesDynamic, SetsDynamic, SetsGroups, on_dynamic_stored}
use Rattle.wh_state.specs.Act.{Act, MakesTable, DropsObject, EditsRows, MakesStream, MovesOffset}
use Rattle.wh_state.specs.Stored.{StoredTable, StoredKind, StoredObject, kind_meant, object_meant}
use Rattle.wh_state.specs.Stored.{standing}
use Rattle.wh_state.specs.Commit.{CreatesTask, SetsTask, StartsRun, FinishesTask, on_task_stored}
use Rattle.wh_state.specs.Commit.{VersionChange, Change, CreatesTable, Drops, PushesVersion, CreatesStream, SetsOffset}
use Rattle.wh_state.specs.Commit.{pushed_object, pushed_kind, offset_set, offset_set_kind, changed, all_changed}
use Rattle.wh_state.specs.Commit.{DoesNotFall, VersionApplies, FitsObject, TakesOffset, OffsetApplies, ChangeApplies}
use Rattle.wh_state.specs.Commit.{AllApply, groups_set, groups_due, GroupsFollow}
use Rattle.wh_state.specs.Written.{version_written, version_written_to, act_written, written}
use Rattle.wh_state.proofs.AllLaws.{all_at, all_append}
use Rattle.wh_state.proofs.ActLaws.{version_change, IsNoEdit, AreEditsFrom, no_more_edits, other_act, next_edit}
use Rattle.wh_state.proofs.ActLaws.{next_refresh}
use Rattle.wh_state.proofs.ActLaws.{edit_leaves, orderly_standing}
use Rattle.wh_state.proofs.FoundLaws.{FoundAt, found_changed, found_spared, found_more}
use Rattle.wh_state.proofs.PartLaws.{made_rise}
use Rattle.wh_state.proofs.AppliesLaws.{IsBelowNext, EditsFit, IsFirmTable, made_some, version_applies}
use Rattle.wh_state.proofs.KindLaws.{offset_keeps}
use Rattle.wh_state.proofs.MeaningLaws.{at_id_meant}
use Rattle.wh_state.proofs.FirmLaws.{IsFirmKind, IsFirmObject, IsFirm, ChangeRises, firm_changed, firm_all}
use Rattle.wh_state.specs.Task.{Task, with_state, with_run, with_ended}

-- ---- changes one after the other

-- they apply, rows rise in them, and groups are set where they are due
pub record AllGo (stamp : ℕ) (objects : List StoredObject) (cs : List Change) : Type 0 where
  pub applies : AllApply stamp objects cs
  pub rises : AllByRecursion ChangeRises cs
  pub follows : GroupsFollow stamp objects None cs

pub go_firm : (stamp : ℕ) (objects : List StoredObject) (cs : List Change) → AllGo stamp objects cs → IsFirm objects
    → IsFirm (all_changed stamp objects cs)
go_firm stamp objects cs go firm = firm_all stamp objects cs go.applies go.rises firm

-- changes behind others
apply_append : (stamp : ℕ) (objects : List StoredObject) (cs ds : List Change) → AllApply stamp objects cs
    → AllApply stamp (all_changed stamp objects cs) ds → AllApply stamp objects (cs ++ ds)
apply_append stamp objects [] ds apply more = more
apply_append stamp objects (c ∷ cs) ds apply more =
    (apply.0, apply_append stamp (changed stamp objects c) cs ds apply.1 more)

-- where those before them leave no groups due
follow_append : (stamp : ℕ) (objects : List StoredObject) (due : Option ℕ) (cs ds : List Change)
    → GroupsFollow stamp objects due cs → GroupsFollow stamp (all_changed stamp objects cs) None ds
    → GroupsFollow stamp objects due (cs ++ ds)
follow_append stamp objects due [] ds follow more =
    subst (λ (due : Option ℕ). GroupsFollow stamp objects due ds) (sym follow) more
follow_append stamp objects due (c ∷ cs) ds follow more =
    (follow.0, follow_append stamp (changed stamp objects c) (groups_due objects c) cs ds follow.1 more)

pub go_append : (stamp : ℕ) (objects : List StoredObject) (cs ds : List Change) → AllGo stamp objects cs
    → AllGo stamp (all_changed stamp objects cs) ds → AllGo stamp objects (cs ++ ds)
go_append stamp objects cs ds go more = record {
  applies = apply_append stamp objects cs ds go.applies more.applies;
  rises = all_append ChangeRises cs ds go.rises more.rises;
  follows = follow_append stamp objects None cs ds go.follows more.follows;
}

pub go_none : (stamp : ℕ) (objects : List StoredObject) → AllGo stamp objects []
go_none stamp objects = record { applies = tt; rises = tt; follows = refl }

-- one that neither sets groups nor leaves any due, and those behind it
pub go_first : (stamp : ℕ) (objects : List StoredObject) (c : Change) (cs : List Change) → groups_set c ≡ None
    → groups_due objects c ≡ None → ChangeApplies objects c → ChangeRises c → AllGo stamp (changed stamp objects c) cs
    → AllGo stamp objects (c ∷ cs)
go_first stamp objects c cs set due applies rises behind =
    go_append stamp objects (c ∷ []) cs
    (record { applies = (applies, tt); rises = (rises, tt); follows = (set, due) })
    behind

-- ---- edits

pub record EditsApply (stamp : ℕ) (e : Edits) (t : StoredTable) : Type 0 where
  pub below : IsBelowNext t
  pub fit : EditsFit t.columns e
  pub later : DoesNotFall (last_of t.versions) stamp
  pub few : t.next_row + length e.added ≤ bound limits.RowNumber
  pub few_partitions : t.next_partition + length (partitions_made t.next_partition t.next_row e (standing t))
      ≤ bound limits.PartitionNumber

abbrev pub EditStands : ℕ → Edits → StoredObject → Type 0
EditStands stamp e o = IsTrue o.is_live × IsSomeAnd (table_in o.kind) (EditsApply stamp e)

-- a table, and no dynamic one
abbrev pub IsBase : StoredObject → Type 0
IsBase o = IsTrue (is_table o.kind)

-- so it is where the table that is meant is one
pub base_meant : (objects : List StoredObject) (id : ℕ)
    → FoundAt (λ (o : Object). IsTrue (is_table o.kind)) (map object_meant objects) id → FoundAt IsBase objects id
base_meant objects id base =
    by_found (at_id objects id)
    (subst (λ (found : Option Object). IsSomeAnd found (λ o. IsTrue (is_table o.kind))) (at_id_meant objects id) base)
  where
    by_kind : (k : StoredKind) → IsTrue (is_table (kind_meant k)) → IsTrue (is_table k)
    by_kind (TableKind t) base = base
    by_kind (StreamKind s) base = base
    by_kind (TaskKind t) base = base
    by_kind (DynamicKind d t) base = base

    by_found : (found : Option StoredObject)
        → IsSomeAnd (option_map object_meant found) (λ o. IsTrue (is_table o.kind)) → IsSomeAnd found IsBase
    by_found None base = base
    by_found (Some o) base = by_kind o.kind base

-- a version for a moment, of the table that stands there
module _ (moment : ℕ) (objects : List StoredObject) (id : ℕ) (e : Edits) (o : StoredObject) (k : StoredKind)
    (there : at_id objects id ≡ Some (record o { kind = k })) where
  pub version_fits : (t : StoredTable) → table_in k ≡ Some t → IsTrue o.is_live → IsFirmTable t
      → EditsApply moment e t
      → ChangeApplies objects (version_written moment id e t)
  version_fits t is live firm stands =
      let c : VersionChange = version_change moment id e t in
      subst (λ found. FitsObject found c) (sym there) (
        live,
        subst (λ found. IsSomeAnd found (λ t. VersionApplies t c)) (sym is)
            (version_applies moment id e t firm stands.below stands.fit stands.later stands.few stands.few_partitions),
      )

  -- groups are due behind it where they are kept
  pub version_due : (t : StoredTable) → groups_due objects (version_written moment id e t)
      ≡ cond (option_map_or (λ d. is_some d.kept) (dynamic_in k) false) (Some id) None
  version_due t = ap (λ (found : Option StoredObject). cond
      (option_map_or (λ d. is_some d.kept) (option_and_then as_dynamic found) false) (Some id) None) there

pub version_rises : (moment id : ℕ) (e : Edits) (t : StoredTable) → IsFirmTable t
    → ChangeRises (version_written moment id e t)
version_rises moment id e t firm = record {
  rows = made_rise t.next_partition t.next_row e (standing t) (orderly_standing t firm.kept.orderly).rows;
  some = made_some t.next_partition t.next_row e (standing t);
}

edit_goes : (stamp : ℕ) (objects : List StoredObject) (id : ℕ) (e : Edits) → AllByRecursion IsFirmObject objects
    → FoundAt (EditStands stamp e) objects id → FoundAt IsBase objects id
    → AllGo stamp objects (act_written stamp objects (EditsRows id e))
edit_goes stamp objects id e firm stands base = by_found (at_id objects id) refl stands base
  where
    by_kind : (o : StoredObject) (k : StoredKind) → at_id objects id ≡ Some (record o { kind = k })
        → EditStands stamp e (record o { kind = k }) → IsTrue (is_table k) → IsFirmKind k
        → AllGo stamp objects (version_written_to stamp id e (Some (record o { kind = k })))
    by_kind o (StreamKind s) there stands base firm = absurd stands.1
    by_kind o (TaskKind t) there stands base firm = absurd stands.1
    by_kind o (DynamicKind d t) there stands base firm = absurd cc
    by_kind o (TableKind t) there stands base firm = record {
      applies = (version_fits stamp objects id e o (TableKind t) there t refl stands.0 firm stands.1, tt);
      rises = (version_rises stamp id e t firm, tt);
      follows = (refl, version_due stamp objects id e o (TableKind t) there t);
    }

    by_found : (found : Option StoredObject) → at_id objects id ≡ found → IsSomeAnd found (EditStands stamp e)
        → IsSomeAnd found IsBase → AllGo stamp objects (version_written_to stamp id e found)
    by_found None none stands base = absurd stands
    by_found (Some o) there stands base =
        by_kind o o.kind there stands base (all_at IsFirmObject objects id o firm there)

-- ---- what stands at an id

pub record KeptByCommits (P : StoredObject → Type 0) : Type 0 where
  pub pushes : (stamp : ℕ) (c : VersionChange) (o : StoredObject) → P o → P (pushed_object stamp c o)
  pub sets : (offset : ℕ) (o : StoredObject) → P o → P (offset_set offset o)
  pub tasks : (f : Task → Task) (o : StoredObject) → P o → P (on_task_stored f o)
  pub dynamics : (f : Dynamic → Dynamic) (o : StoredObject) → P o → P (on_dynamic_stored f o)

abbrev pub ChangeSpares : ℕ → Change → Type 0
ChangeSpares id (Drops other) = id ≡ other → ⊥
ChangeSpares id _ = Unit {0}

found_changes : (P : StoredObject → Type 0) → KeptByCommits P → (stamp : ℕ) (objects : List StoredObject) (id : ℕ)
    → (c : Change) → ChangeSpares id c → FoundAt P objects id → FoundAt P (changed stamp objects c) id
unfolding changed
found_changes P keeps stamp objects id (CreatesTable c) spares h = found_more P objects _ id h
found_changes P keeps stamp objects id (CreatesStream c) spares h = found_more P objects _ id h
found_changes P keeps stamp objects id (Drops other) spares h = found_spared P dropped objects other id spares h
found_changes P keeps stamp objects id (PushesVersion c) spares h =
    found_changed P (pushed_object stamp c) (keeps.pushes stamp c) objects c.id id h
found_changes P keeps stamp objects id (SetsOffset other offset) spares h =
    found_changed P (offset_set offset) (keeps.sets offset) objects other id h
found_changes P keeps stamp objects id (CreatesTask c) spares h = found_more P objects _ id h
found_changes P keeps stamp objects id (SetsTask other state) spares h =
    found_changed P (on_task_stored (with_state state)) (keeps.tasks (with_state state)) objects other id h
found_changes P keeps stamp objects id (StartsRun root tasks) spares h =
    found_changed P (on_task_stored (with_run tasks)) (keeps.tasks (with_run tasks)) objects root id h
found_changes P keeps stamp objects id (FinishesTask root task ending) spares h =
    found_changed P (on_task_stored (with_ended task ending)) (keeps.tasks (with_ended task ending)) objects root id h
found_changes P keeps stamp objects id (CreatesDynamic c) spares h = found_more P objects _ id h
found_changes P keeps stamp objects id (SetsDynamic other state) spares h = found_changed P
    (on_dynamic_stored (with_dynamic_state state)) (keeps.dynamics (with_dynamic_state state)) objects other id h
found_changes P keeps stamp objects id (SetsGroups other c) spares h =
    found_changed P (on_dynamic_stored (behind_change c)) (keeps.dynamics (behind_change c)) objects other id h

-- behind changes of which none drops it
pub found_through : (P : StoredObject → Type 0) → KeptByCommits P → (stamp : ℕ) (objects : List StoredObject) (id : ℕ)
    → (cs : List Change) → AllByRecursion (ChangeSpares id) cs → FoundAt P objects id
    → FoundAt P (all_changed stamp objects cs) id
found_through P keeps stamp objects id [] spare h = h
found_through P keeps stamp objects id (c ∷ cs) spare h =
    found_through P keeps stamp (changed stamp objects c) id cs spare.1
    (found_changes P keeps stamp objects id c spare.0 h)

-- behind the edits of a table
edit_keeps : (P : StoredObject → Type 0)
    → ((stamp : ℕ) (c : VersionChange) (o : StoredObject) → P o → P (pushed_object stamp c o))
    → (stamp : ℕ) (objects : List StoredObject) (other : ℕ) (e : Edits) (id : ℕ)
    → FoundAt P objects id → FoundAt P (all_changed stamp objects (act_written stamp objects (EditsRows other e))) id
unfolding changed
edit_keeps P keeps stamp objects other e id h = by_found (at_id objects other)
  where
    by_kind : (o : StoredObject) (k : StoredKind)
        → FoundAt P (all_changed stamp objects (version_written_to stamp other e (Some (record o { kind = k })))) id
    by_kind o (TableKind t) =
        found_changed P (pushed_object stamp (version_change stamp other e t))
        (keeps stamp (version_change stamp other e t)) objects other id h
    by_kind o (StreamKind s) = h
    by_kind o (TaskKind t) = h
    by_kind o (DynamicKind d t) =
        found_changed P (pushed_object stamp (version_change stamp other e t))
        (keeps stamp (version_change stamp other e t)) objects other id h

    by_found : (found : Option StoredObject)
        → FoundAt P (all_changed stamp objects (version_written_to stamp other e found)) id
    by_found None = h
    by_found (Some o) = by_kind o o.kind

-- ---- moves of offsets

abbrev pub TakesMove : ℕ → StoredObject → Type 0
TakesMove start o = IsTrue o.is_live × TakesOffset o.kind start

takes_kept : (start : ℕ) (o : StoredObject) (stamp : ℕ) (c : VersionChange) → TakesMove start o
    → TakesMove start (pushed_object stamp c o)
takes_kept start o stamp c h = (h.0, by_kind o.kind h.1)
  where
    by_kind : (k : StoredKind) → TakesOffset k start → TakesOffset (pushed_kind stamp c k) start
    by_kind (TableKind t) h = absurd h
    by_kind (StreamKind s) h = h
    by_kind (TaskKind t) h = absurd h
    by_kind (DynamicKind d t) h = absurd h

-- a stream that is moved
takes_again : (start : ℕ) (o : StoredObject) → TakesMove start o → TakesMove start (offset_set start o)
takes_again start o h = (h.0, by_kind o.kind h.1)
  where
    by_kind : (k : StoredKind) → TakesOffset k start → TakesOffset (offset_set_kind start k) start
    by_kind (TableKind t) h = absurd h
    by_kind (StreamKind s) h = omega arith
    by_kind (TaskKind t) h = absurd h
    by_kind (DynamicKind d t) h = absurd h

-- edits of a table that isn't moved
edits_stand : (stamp start : ℕ) (e : Edits) (o : StoredObject) → EditStands stamp e o
    → EditStands stamp e (offset_set start o)
edits_stand stamp start e o h = (h.0, by_kind o.kind h.1)
  where
    by_kind : (k : StoredKind) → IsSomeAnd (table_in k) (EditsApply stamp e)
        → IsSomeAnd (table_in (offset_set_kind start k)) (EditsApply stamp e)
    by_kind (TableKind t) h = h
    by_kind (StreamKind s) h = absurd h
    by_kind (TaskKind t) h = absurd h
    by_kind (DynamicKind d t) h = h

-- the acts of a commit of a transaction of that start
abbrev pub ActStands : ℕ → ℕ → List StoredObject → Act → Type 0
ActStands stamp start objects (EditsRows id e) = FoundAt (EditStands stamp e) objects id × FoundAt IsBase objects id
ActStands stamp start objects (MovesOffset id offset) = (offset ≡ start) × FoundAt (TakesMove start) objects id
ActStands stamp start objects _ = ⊥

abbrev pub AllStand : ℕ → ℕ → List StoredObject → List Act → Type 0
AllStand stamp start objects acts = AllByRecursion (ActStands stamp start objects) acts

-- ---- behind a move

move_stands : (stamp start : ℕ) (objects : List StoredObject) (id : ℕ) (act : Act)
    → ActStands stamp start objects act → ActStands stamp start (changed stamp objects (SetsOffset id start)) act
unfolding changed
move_stands stamp start objects id (EditsRows other e) stands = (
  found_changed (EditStands stamp e) (offset_set start) (edits_stand stamp start e) objects id other stands.0,
  found_changed IsBase (offset_set start)
      (λ o base. offset_keeps (λ k. IsTrue (is_table k)) start (λ s h. h) o.kind base) objects id other stands.1,
)
move_stands stamp start objects id (MovesOffset other offset) stands = (
  stands.0,
  found_changed (TakesMove start) (offset_set start) (takes_again start) objects id other stands.1,
)
move_stands stamp start objects id (MakesTable name columns retention) stands = absurd stands
move_stands stamp start objects id (DropsObject other) stands = absurd stands
move_stands stamp start objects id (MakesStream name source is_append_only) stands = absurd stands
move_stands stamp start objects id (MakesTask name minutes after runs) stands = absurd stands
move_stands stamp start objects id (PutsTask other state) stands = absurd stands
move_stands stamp start objects id (BeginsRun root tasks) stands = absurd stands
move_stands stamp start objects id (EndsTask root task ending) stands = absurd stands
move_stands stamp start objects id (MakesDynamic name lag is_incremental query columns) stands = absurd stands
move_stands stamp start objects id (PutsDynamic other state) stands = absurd stands
move_stands stamp start objects id (RefreshesRows other moment f c) stands = absurd stands

moves_stand : (stamp start : ℕ) (objects : List StoredObject) (id : ℕ) (acts : List Act)
    → AllStand stamp start objects acts → AllStand stamp start (changed stamp objects (SetsOffset id start)) acts
moves_stand stamp start objects id [] stand = tt
moves_stand stamp start objects id (act ∷ acts) stand =
    (move_stands stamp start objects id act stand.0, moves_stand stamp start objects id acts stand.1)

-- ---- behind edits, of tables of lower ids

act_stands : (stamp start : ℕ) (objects : List StoredObject) (id : ℕ) (e : Edits) (act : Act) → IsNoEdit act
    → ActStands stamp start objects act
    → ActStands stamp start (all_changed stamp objects (act_written stamp objects (EditsRows id e))) act
act_stands stamp start objects id e (EditsRows other f) are stands = absurd are
act_stands stamp start objects id e (MovesOffset other offset) are stands = (
  stands.0,
  edit_keeps (TakesMove start) (λ stamp c o h. takes_kept start o stamp c h) stamp objects id e
      other stands.1,
)
act_stands stamp start objects id e (MakesTable name columns retention) are stands = absurd stands
act_stands stamp start objects id e (DropsObject other) are stands = absurd stands
act_stands stamp start objects id e (MakesStream name source is_append_only) are stands = absurd stands
act_stands stamp start objects id e (MakesTask name minutes after runs) are stands = absurd stands
act_stands stamp start objects id e (PutsTask other state) are stands = absurd stands
act_stands stamp start objects id e (BeginsRun root tasks) are stands = absurd stands
act_stands stamp start objects id e (EndsTask root task ending) are stands = absurd stands
act_stands stamp start objects id e (MakesDynamic name lag is_incremental query columns) are stands = absurd stands
act_stands stamp start objects id e (PutsDynamic other state) are stands = absurd stands
act_stands stamp start objects id e (RefreshesRows other moment f c) are stands = absurd are

later_stand : (stamp start : ℕ) (objects : List StoredObject) (id : ℕ) (e : Edits) (least : ℕ) (acts : List Act)
    → id < least → AreEditsFrom least acts → AllStand stamp start objects acts
    → AllStand stamp start (all_changed stamp objects (act_written stamp objects (EditsRows id e))) acts
later_stand stamp start objects id e least [] h no_more_edits stand = tt
later_stand stamp start objects id e least (act ∷ acts) h (other_act other rising) stand = (
  act_stands stamp start objects id e act other stand.0,
  later_stand stamp start objects id e least acts h rising stand.1,
)
later_stand stamp start objects id e least (EditsRows other f ∷ acts) h (next_edit from rising) stand = (
  subst (λ found. IsSomeAnd found (EditStands stamp f) × IsSomeAnd found IsBase)
      (sym (edit_leaves stamp id e objects other (omega (arith, from)))) stand.0,
  later_stand stamp start objects id e (suc other) acts (omega (arith, from)) rising stand.1,
)
later_stand stamp start objects id e least (RefreshesRows other moment f c ∷ acts) h (next_refresh from rising) stand =
    absurd stand.0

-- ---- edits by rising ids, and moves

-- a move, and then others
move_goes : (stamp start : ℕ) (objects : List StoredObject) (act : Act) (acts : List Act) → IsNoEdit act
    → AllStand stamp start objects (act ∷ acts)
    → ((id : ℕ) → FoundAt (TakesMove start) objects id
    → AllStand stamp start (changed stamp objects (SetsOffset id start)) acts
    → AllGo stamp (changed stamp objects (SetsOffset id start))
    (written stamp (changed stamp objects (SetsOffset id start)) acts))
    → AllGo stamp objects (written stamp objects (act ∷ acts))
move_goes stamp start objects (EditsRows id e) acts are stand rest = absurd are
move_goes stamp start objects (MakesTable name columns retention) acts are stand rest = absurd stand.0
move_goes stamp start objects (DropsObject id) acts are stand rest = absurd stand.0
move_goes stamp start objects (MakesStream name source is_append_only) acts are stand rest = absurd stand.0
move_goes stamp start objects (MakesTask name minutes after runs) acts are stand rest = absurd stand.0
move_goes stamp start objects (PutsTask id state) acts are stand rest = absurd stand.0
move_goes stamp start objects (BeginsRun root tasks) acts are stand rest = absurd stand.0
move_goes stamp start objects (EndsTask root task ending) acts are stand rest = absurd stand.0
move_goes stamp start objects (MakesDynamic name lag is_incremental query columns) acts are stand rest = absurd stand.0
move_goes stamp start objects (PutsDynamic id state) acts are stand rest = absurd stand.0
move_goes stamp start objects (RefreshesRows id moment e c) acts are stand rest = absurd are
move_goes stamp start objects (MovesOffset id offset) acts are stand rest =
    go_first stamp objects (SetsOffset id offset) (written stamp (changed stamp objects (SetsOffset id offset)) acts)
    refl refl (subst (λ (n : ℕ). OffsetApplies (at_id objects id) n) (sym stand.0.0) stand.0.1) tt
    (subst (λ (n : ℕ). AllGo stamp (changed stamp objects (SetsOffset id n))
    (written stamp (changed stamp objects (SetsOffset id n)) acts)) (sym stand.0.0)
    (rest id stand.0.1 (moves_stand stamp start objects id acts stand.1)))

set_firm : (stamp id offset : ℕ) (objects : List StoredObject) → FoundAt (TakesMove offset) objects id → IsFirm objects
    → IsFirm (changed stamp objects (SetsOffset id offset))
set_firm stamp id offset objects takes firm = firm_changed stamp objects (SetsOffset id offset) takes tt firm

pub acts_go : (stamp start least : ℕ) (objects : List StoredObject) (acts : List Act) → AreEditsFrom least acts
    → AllStand stamp start objects acts → IsFirm objects → AllGo stamp objects (written stamp objects acts)
acts_go stamp start least objects [] no_more_edits stand firm = go_none stamp objects
acts_go stamp start least objects (RefreshesRows id moment e c ∷ acts) (next_refresh from rising) stand firm =
    absurd stand.0
acts_go stamp start least objects (EditsRows id e ∷ acts) (next_edit from rising) stand firm =
    let first : List Change = act_written stamp objects (EditsRows id e) in
    let go : AllGo stamp objects first = edit_goes stamp objects id e firm.tables stand.0.0 stand.0.1 in
    go_append stamp objects first (written stamp (all_changed stamp objects first) acts) go
    (acts_go stamp start (suc id) (all_changed stamp objects first) acts rising
    (later_stand stamp start objects id e (suc id) acts (omega arith) rising stand.1)
    (go_firm stamp objects first go firm))
acts_go stamp start least objects (act ∷ acts) (other_act other rising) stand firm =
    move_goes stamp start objects act acts other stand (λ id takes stand.
    acts_go stamp start least (changed stamp objects (SetsOffset id start)) acts rising stand
    (set_firm stamp id start objects takes firm))
