-- What is written for the refresh of one dynamic table applies.
--     StateStands         a live dynamic table takes a state
--     Refreshable         one may be brought to a moment
--     GroupsStand         one takes a change of its groups
--     one_goes            its version and its groups, if there is one, and then its state
--     one_leaves          what stands behind it stays
--     one_means           and means what its acts do
use Rattle.std.proofs.Common.{◌≡◌, ℕ, ◌<◌, ◌≤◌, Bool, List, [], ◌∷◌, ◌++◌, map, Option, Some, None, refl, sym, ap}
use Rattle.std.proofs.Common.{subst, ◌∙◌, IsTrue, IfSome, arith}
use Rattle.std.specs.List.{AllByRecursion}
use Rattle.std.specs.Option.{IsSomeAnd}
use Rattle.wh_value.specs.Column.{Column}
use Rattle.wh_state.specs.State.{State, TableKind, StreamKind, TaskKind, DynamicKind, dynamic_in, at_id, last_of}
use Rattle.wh_state.specs.State.{changed_at}
use Rattle.wh_state.specs.Dynamic.{DynamicQuery, DynamicState, Dynamic, Kept, GroupsChange, with_dynamic_state}
use Rattle.wh_state.specs.Dynamic.{behind_change}
use Rattle.wh_state.specs.Edits.{Edits}
use Rattle.wh_state.specs.Act.{Act, MakesDynamic, PutsDynamic, RefreshesRows, all_acted}
use Rattle.wh_state.specs.Stored.{StoredTable, StoredKind, StoredObject, object_meant}
use Rattle.wh_state.specs.Commit.{VersionChange, Change, SetsDynamic, on_dynamic_stored, pushed_object, pushed_kind}
use Rattle.wh_state.specs.Commit.{changed, all_changed, TakesState, TakesGroups, GroupsApply, DoesNotFall}
use Rattle.wh_state.specs.Written.{version_written, version_written_to, groups_written, act_written, written}
use Rattle.wh_state.specs.Orderly.{IsOrderlyKind, IsOrderlyObject}
use Rattle.wh_state.proofs.AllLaws.{all_map, all_at}
use Rattle.wh_state.proofs.IdLaws.{at_other}
use Rattle.wh_state.proofs.KindLaws.{dynamic_keeps}
use Rattle.wh_state.proofs.ActLaws.{version_change, refresh_leaves, all_changed_append, AreEditsFrom, no_more_edits}
use Rattle.wh_state.proofs.ActLaws.{other_act, next_refresh, written_meant}
use Rattle.wh_state.proofs.FoundLaws.{FoundAt, found_changed, at_same}
use Rattle.wh_state.proofs.AppliesLaws.{IsBelowNext, IsFirmTable}
use Rattle.wh_state.proofs.FirmLaws.{IsFirmKind, IsFirmObject, IsFirm}
use Rattle.wh_state.proofs.WrittenLaws.{AllGo, go_append, go_none, go_first, EditStands, version_fits, version_due}
use Rattle.wh_state.proofs.WrittenLaws.{version_rises}

abbrev pub StateStands : DynamicState → StoredObject → Type 0
StateStands state o = IsTrue o.is_live × IsSomeAnd (dynamic_in o.kind) (λ d. TakesState d state)

-- its moment isn't behind that one, nor is that of its last version
abbrev pub KindRefreshable : ℕ → StoredKind → Type 0
KindRefreshable moment (TableKind t) = ⊥
KindRefreshable moment (StreamKind s) = ⊥
KindRefreshable moment (TaskKind t) = ⊥
KindRefreshable moment (DynamicKind d t) =
    (d.state.moment ≤ moment) × (IsBelowNext t × DoesNotFall (last_of t.versions) moment)

abbrev pub Refreshable : ℕ → StoredObject → Type 0
Refreshable moment o = IsTrue o.is_live × KindRefreshable moment o.kind

-- its groups are changed where they are kept, and nowhere else
abbrev pub TakesChange : Option GroupsChange → Option Kept → Type 0
TakesChange None None = Unit {0}
TakesChange (Some c) (Some k) = TakesGroups c k
TakesChange _ _ = ⊥

abbrev pub GroupsStand : Option GroupsChange → StoredObject → Type 0
GroupsStand c o = IsSomeAnd (dynamic_in o.kind) (λ d. TakesChange c d.kept)

-- ---- acts

-- the acts of one table
abbrev pub refresh_of : ℕ → ℕ → Option Edits → Option GroupsChange → DynamicState → List Act
refresh_of id moment None c state = PutsDynamic id state ∷ []
refresh_of id moment (Some e) c state = RefreshesRows id moment e c ∷ PutsDynamic id state ∷ []

-- a version, and the groups behind it
version_goes : (stamp moment : ℕ) (objects : List StoredObject) (id : ℕ) (e : Edits) (c : Option GroupsChange)
    → AllByRecursion IsFirmObject objects → FoundAt (EditStands moment e) objects id
    → FoundAt (GroupsStand c) objects id
    → AllGo stamp objects (act_written stamp objects (RefreshesRows id moment e c))
unfolding changed
version_goes stamp moment objects id e c firm stands groups = by_found (at_id objects id) refl stands groups
  where
    by_kept : (o : StoredObject) (d : Dynamic) (t : StoredTable) (c : Option GroupsChange) (kept : Option Kept)
        → at_id objects id ≡ Some (record o { kind = DynamicKind (record d { kept = kept }) t })
        → EditStands moment e (record o { kind = DynamicKind d t }) → TakesChange c kept → IsFirmTable t
        → AllGo stamp objects (version_written moment id e t ∷ groups_written id c)
    by_kept o d t None None there stands takes firm =
        let k : StoredKind = DynamicKind (record d { kept = None }) t in
        record {
          applies = (version_fits moment objects id e o k there t refl stands.0 firm stands.1, tt);
          rises = (version_rises moment id e t firm, tt);
          follows = (refl, version_due moment objects id e o k there t);
        }
    by_kept o d t (Some c) (Some kept) there stands takes firm =
        let k : StoredKind = DynamicKind (record d { kept = Some kept }) t in
        let v : VersionChange = version_change moment id e t in
        let behind : GroupsApply (at_id (changed_at objects id (pushed_object stamp v)) id) c =
        subst (λ (found : Option StoredObject). GroupsApply found c)
        (sym (at_same (pushed_object stamp v) objects id (record o { kind = k }) there)) (stands.0, takes) in
        record {
          applies = (version_fits moment objects id e o k there t refl stands.0 firm stands.1, (behind, tt));
          rises = (version_rises moment id e t firm, (tt, tt));
          follows = (refl, (sym (version_due moment objects id e o k there t), refl));
        }
    by_kept o d t None (Some kept) there stands takes firm = absurd takes
    by_kept o d t (Some c) None there stands takes firm = absurd takes

    by_kind : (o : StoredObject) (k : StoredKind) → at_id objects id ≡ Some (record o { kind = k })
        → EditStands moment e (record o { kind = k }) → GroupsStand c (record o { kind = k }) → IsFirmKind k
        → AllGo stamp objects
        (version_written_to moment id e (Some (record o { kind = k })) ++ groups_written id c)
    by_kind o (TableKind t) there stands groups firm = absurd groups
    by_kind o (StreamKind s) there stands groups firm = absurd groups
    by_kind o (TaskKind t) there stands groups firm = absurd groups
    by_kind o (DynamicKind d t) there stands groups firm = by_kept o d t c d.kept there stands groups firm

    by_found : (found : Option StoredObject) → at_id objects id ≡ found → IsSomeAnd found (EditStands moment e)
        → IsSomeAnd found (GroupsStand c)
        → AllGo stamp objects (version_written_to moment id e found ++ groups_written id c)
    by_found None none stands groups = absurd stands
    by_found (Some o) there stands groups =
        by_kind o o.kind there stands groups (all_at IsFirmObject objects id o firm there)

-- a state is taken behind a version
pushed_takes : (state : DynamicState) (stamp : ℕ) (c : VersionChange) (o : StoredObject) → StateStands state o
    → StateStands state (pushed_object stamp c o)
pushed_takes state stamp c o stands = (stands.0, by_kind o.kind stands.1)
  where
    by_kind : (k : StoredKind) → IsSomeAnd (dynamic_in k) (λ d. TakesState d state)
        → IsSomeAnd (dynamic_in (pushed_kind stamp c k)) (λ d. TakesState d state)
    by_kind (TableKind t) takes = absurd takes
    by_kind (StreamKind s) takes = absurd takes
    by_kind (TaskKind t) takes = absurd takes
    by_kind (DynamicKind d t) takes = takes

-- and behind a change of groups
groups_take : (state : DynamicState) (c : GroupsChange) (o : StoredObject) → StateStands state o
    → StateStands state (on_dynamic_stored (behind_change c) o)
groups_take state c o stands = (
  stands.0,
  dynamic_keeps (λ k. IsSomeAnd (dynamic_in k) (λ d. TakesState d state)) (behind_change c)
      (λ d t takes. record { lag = takes.lag; failures = takes.failures; moment = takes.moment }) o.kind stands.1,
)

state_behind : (state : DynamicState) (stamp moment : ℕ) (objects : List StoredObject) (id : ℕ) (e : Edits)
    → (c : Option GroupsChange) → FoundAt (StateStands state) objects id
    → FoundAt (StateStands state) (all_changed stamp objects (act_written stamp objects (RefreshesRows id moment e c)))
    id
unfolding changed
state_behind state stamp moment objects id e c stands =
    subst new (sym (all_changed_append stamp objects version (groups_written id c)))
    (by_groups c (by_found (at_id objects id)))
  where
    version : List Change
    version = version_written_to moment id e (at_id objects id)

    new : List StoredObject → Type 0
    new after = FoundAt (StateStands state) after id

    by_kind : (o : StoredObject) (k : StoredKind)
        → new (all_changed stamp objects (version_written_to moment id e (Some (record o { kind = k }))))
    by_kind o (TableKind t) = found_changed (StateStands state) (pushed_object stamp (version_change moment id e t))
        (pushed_takes state stamp (version_change moment id e t)) objects id id stands
    by_kind o (StreamKind s) = stands
    by_kind o (TaskKind t) = stands
    by_kind o (DynamicKind d t) = found_changed (StateStands state) (pushed_object stamp (version_change moment id e t))
        (pushed_takes state stamp (version_change moment id e t)) objects id id stands

    by_found : (found : Option StoredObject) → new (all_changed stamp objects (version_written_to moment id e found))
    by_found None = stands
    by_found (Some o) = by_kind o o.kind

    by_groups : (c : Option GroupsChange) → new (all_changed stamp objects version)
        → new (all_changed stamp (all_changed stamp objects version) (groups_written id c))
    by_groups None stands = stands
    by_groups (Some c) stands = found_changed (StateStands state) (on_dynamic_stored (behind_change c))
        (groups_take state c) (all_changed stamp objects version) id id stands

pub one_goes : (stamp moment : ℕ) (objects : List StoredObject) (id : ℕ) (edits : Option Edits)
    (c : Option GroupsChange) (state : DynamicState)
    → IsFirm objects → FoundAt (StateStands state) objects id
    → IfSome edits (λ e. FoundAt (EditStands moment e) objects id)
    → IfSome edits (λ e. FoundAt (GroupsStand c) objects id)
    → AllGo stamp objects (written stamp objects (refresh_of id moment edits c state))
one_goes stamp moment objects id None c state firm stands fits groups =
    go_first stamp objects (SetsDynamic id state) [] refl refl stands tt (go_none stamp _)
one_goes stamp moment objects id (Some e) c state firm stands fits groups =
    let first : List Change = act_written stamp objects (RefreshesRows id moment e c) in
    go_append stamp objects first (SetsDynamic id state ∷ [])
    (version_goes stamp moment objects id e c firm.tables fits groups)
    (go_first stamp (all_changed stamp objects first) (SetsDynamic id state) [] refl refl
    (state_behind state stamp moment objects id e c stands) tt (go_none stamp _))

pub one_leaves : (stamp moment : ℕ) (objects : List StoredObject) (id : ℕ) (edits : Option Edits)
    (c : Option GroupsChange) (state : DynamicState) (later : ℕ) → id < later
    → at_id (all_changed stamp objects (written stamp objects (refresh_of id moment edits c state))) later
    ≡ at_id objects later
unfolding changed
one_leaves stamp moment objects id None c state later h =
    at_other (on_dynamic_stored (with_dynamic_state state)) objects id later h
one_leaves stamp moment objects id (Some e) c state later h =
    let first : List Change = act_written stamp objects (RefreshesRows id moment e c) in
    ap (λ (os : List StoredObject). at_id os later)
    (all_changed_append stamp objects first (SetsDynamic id state ∷ []))
    ∙ at_other (on_dynamic_stored (with_dynamic_state state)) (all_changed stamp objects first) id later h
    ∙ refresh_leaves stamp moment id e c objects later h

-- ---- what it means

firm_orderly : (objects : List StoredObject) → AllByRecursion IsFirmObject objects
    → AllByRecursion IsOrderlyObject objects
firm_orderly objects firm = all_map IsFirmObject IsOrderlyObject (λ o h. by_kind o.kind h) objects firm
  where
    by_kind : (k : StoredKind) → IsFirmKind k → IsOrderlyKind k
    by_kind (TableKind t) h = h.kept.orderly
    by_kind (StreamKind s) h = tt
    by_kind (TaskKind t) h = tt
    by_kind (DynamicKind d t) h = h.kept.orderly

one_shape : (id moment : ℕ) (edits : Option Edits) (c : Option GroupsChange) (state : DynamicState)
    → AreEditsFrom 0 (refresh_of id moment edits c state)
one_shape id moment None c state = other_act tt no_more_edits
one_shape id moment (Some e) c state = next_refresh (omega arith) (other_act tt no_more_edits)

pub one_means : (stamp moment : ℕ) (objects : List StoredObject) (id : ℕ) (edits : Option Edits)
    (c : Option GroupsChange) (state : DynamicState) → IsFirm objects
    → map object_meant (all_changed stamp objects (written stamp objects (refresh_of id moment edits c state)))
    ≡ all_acted stamp (map object_meant objects) (refresh_of id moment edits c state)
one_means stamp moment objects id edits c state firm =
    ap (λ (s : State). s.objects) (written_meant (record { last = 0; objects = objects }) stamp
    (refresh_of id moment edits c state) (one_shape id moment edits c state) (firm_orderly objects firm.tables))

-- a new dynamic table
pub made_means : (stamp : ℕ) (objects : List StoredObject) (name : List ℕ) (lag : ℕ) (is_incremental : Bool)
    → (query : DynamicQuery) (columns : List Column) → IsFirm objects
    → map object_meant (all_changed stamp objects (written stamp objects
    (MakesDynamic name lag is_incremental query columns ∷ [])))
    ≡ all_acted stamp (map object_meant objects) (MakesDynamic name lag is_incremental query columns ∷ [])
made_means stamp objects name lag is_incremental query columns firm =
    ap (λ (s : State). s.objects) (written_meant (record { last = 0; objects = objects }) stamp
    (MakesDynamic name lag is_incremental query columns ∷ []) (other_act tt no_more_edits)
    (firm_orderly objects firm.tables))
