-- What is sound stays so.
--     sound_first                  the first state is sound
--     sound_rest                   so is a sound state as the file keeps it
--     MayEdit, MayMake, MayPut, MayRefresh     when other acts keep objects sound, by the objects that they meet
--     AreKeeping, acts_kept        acts that do so, one after the other
--     sound_done                   a commit of such acts at a later stamp
use Rattle.std.proofs.Common.{◌≡◌, ℕ, zero, suc, ◌<◌, ◌≤◌, ◌⊎◌, inl, inr, Bool, List, [], ◌∷◌, ◌++◌, length, Option}
use Rattle.std.proofs.Common.{Some, None}
use Rattle.std.proofs.Common.{IsTrue, true, false, cond, option_map, refl, sym, ap, subst, ◌∙◌, arith}
use Rattle.std.specs.FinMap.{values, empty}
use Rattle.std.specs.List.{AllByRecursion}
use Rattle.std.specs.Option.{IfSome, IsSomeAnd, option_and_then}
use Rattle.std.proofs.lemmas.Option.{IfSome_then}
use Rattle.wh_meaning.specs.Bag.{bag_of}
use Rattle.wh_value.specs.Column.{Column}
use Rattle.wh_naming.specs.Select.{BoundQuery}
use Rattle.wh_algebra.specs.Increments.{incrementable}
use Rattle.wh_state.proofs.PlaceLaws.{changed_twice}
use Rattle.wh_state.specs.State.{Table, Kind, TableKind, StreamKind, TaskKind, DynamicKind, Object, State}
use Rattle.wh_state.specs.State.{first_state, at_rest, at_id, changed_at, on_dynamic, dynamic_in}
use Rattle.wh_state.specs.State.{last_rows, empty_table, table_in}
use Rattle.wh_state.specs.Dynamic.{DynamicQuery, DynamicState, Dynamic, Kept, GroupsChange, new_dynamic}
use Rattle.wh_state.specs.Dynamic.{with_dynamic_state, with_groups, ids_read}
use Rattle.wh_state.specs.Objects.{as_dynamic, as_table, table_at, dynamic_at}
use Rattle.wh_maintenance.specs.Above.{Grouping}
use Rattle.wh_state.specs.Bound.{query_bound, grouping_bound, kept_first, kept_for}
use Rattle.wh_state.specs.Moments.{bag_at, evaluated_at, groups_at, written_out, over_tables, StandsFor}
use Rattle.wh_state.specs.Edits.{Edits}
use Rattle.wh_state.specs.Act.{Act, EditsRows}
use Rattle.wh_state.specs.Act.{MakesDynamic, PutsDynamic, RefreshesRows, edited_table, edited_kind}
use Rattle.wh_state.specs.Act.{refreshed_kind, refreshed_object}
use Rattle.wh_state.specs.Act.{edited_object, on_dynamic_object, acted, all_acted}
use Rattle.wh_state.specs.Act.{done}
use Rattle.wh_state.specs.Sound.{IsTimelyFor, IsOlder, IsKeptAs, IsSoundDynamic, IsSoundKind, IsSoundObject, Sound}
use Rattle.wh_state.proofs.AllLaws.{all_map}
use Rattle.wh_state.proofs.EvaluatedLaws.{IsNextKind, next_table, next_stream, next_task, next_dynamic, next_same}
use Rattle.wh_state.proofs.EvaluatedLaws.{Follows}
use Rattle.wh_state.proofs.EvaluatedLaws.{rows_kept, IsThere, bound_follows, kept_follows, StandFrom, StandAt}
use Rattle.wh_state.proofs.EvaluatedLaws.{stand_from, evaluated_same, evaluated_follows, groups_same, groups_follow}
use Rattle.wh_state.proofs.EvaluatedLaws.{ids_read_hold}
use Rattle.wh_state.proofs.SoundObjects.{IsKept, kept_of, all_sound, dynamic_there}
use Rattle.wh_state.proofs.SoundObjects.{reads_there, AllBefore, moments_within, all_stand, written_follows}
use Rattle.wh_state.proofs.SoundObjects.{written_evaluated}
use Rattle.wh_state.proofs.SoundObjects.{more_follow, changed_kept, more_kept, older_follows, kind_follows}
use Rattle.wh_state.proofs.SoundTables.{IsFresh, table_later, edited_sound, IsRefreshed, refreshed_sound}
use Rattle.wh_state.proofs.StillActs.{IsStill, still_kept}

-- ---- a version of a base table

-- one that has none of the stamp, where no dynamic table stands for the stamp
pub record MayEdit (stamp : ℕ) (objects : List Object) (id : ℕ) : Type 0 where
  pub base : dynamic_at objects id ≡ None
  pub fresh : IfSome (table_at objects id) (IsFresh stamp)
  pub moments : AllBefore stamp objects

edited_kept : (stamp : ℕ) (objects : List Object) (id : ℕ) (e : Edits) → MayEdit stamp objects id → IsKept stamp objects
    → IsKept stamp (changed_at objects id (edited_object stamp stamp e))
unfolding edited_table
edited_kept stamp objects id e may kept =
    changed_kept stamp stamp objects id (edited_object stamp stamp e) kept may.moments
    (λ o there. next o.kind (ap (option_and_then as_dynamic) (sym there) ∙ may.base))
    (λ follows o there. sound (changed_at objects id (edited_object stamp stamp e)) o.kind
    (ap (option_and_then as_dynamic) (sym there) ∙ may.base)
    (subst (λ (found : Option Object). IfSome (option_and_then as_table found) (IsFresh stamp)) there may.fresh)
    (kind_follows stamp stamp objects (changed_at objects id (edited_object stamp stamp e)) follows kept may.moments
    id o there))
  where
    next : (k : Kind) → dynamic_in k ≡ None → IsNextKind stamp k (edited_kind stamp stamp e k)
    next (TableKind t) base = next_table refl refl (λ time before. rows_kept stamp stamp e t time before)
    next (StreamKind s) base = next_stream refl
    next (TaskKind t) base = next_task
    next (DynamicKind d t) base = absurd cc

    sound : (all : List Object) (k : Kind) → dynamic_in k ≡ None → IfSome (table_in k) (IsFresh stamp)
        → IsSoundKind stamp all k → IsSoundKind stamp all (edited_kind stamp stamp e k)
    sound all (TableKind t) base fresh was = edited_sound stamp e t fresh was
    sound all (StreamKind s) base fresh was = was
    sound all (TaskKind t) base fresh was = tt
    sound all (DynamicKind d t) base fresh was = absurd cc

-- ---- a new dynamic table

-- that reads what is there, and is brought by changes where its query allows it
pub record MayMake (objects : List Object) (is_incremental : Bool) (query : DynamicQuery) : Type 0 where
  pub reads : IsThere objects query
  pub mode : IsTrue is_incremental → IsTrue (incrementable (query_bound objects query).query)

-- nothing is created behind the stamp
all_older : (stamp : ℕ) (objects : List Object) → IsKept stamp objects → (id : ℕ) → IsOlder objects stamp id
all_older stamp objects kept id = by_found (at_id objects id) refl
  where
    by_kind : (k : Kind) → IsSoundKind stamp objects k
        → IfSome (dynamic_in k) (λ e. IfSome (table_in k) (λ u. u.created ≤ stamp))
    by_kind (TableKind t) sound = tt
    by_kind (StreamKind s) sound = tt
    by_kind (TaskKind t) sound = tt
    by_kind (DynamicKind d t) sound = sound.created

    by_found : (found : Option Object) → at_id objects id ≡ found → IfSome (option_and_then as_dynamic found)
        (λ e. IfSome (option_and_then as_table found) (λ u. u.created ≤ stamp))
    by_found None none = tt
    by_found (Some o) there = by_kind o.kind (kept.each id o there)

made_sound : (stamp : ℕ) (objects : List Object) (o : Object) (lag : ℕ) (is_incremental : Bool) (query : DynamicQuery)
    (columns : List Column) → MayMake objects is_incremental query → IsKept stamp objects
    → IsSoundDynamic stamp (objects ++ o ∷ [])
    (new_dynamic lag is_incremental (kept_for objects is_incremental query) query) (empty_table columns stamp)
made_sound stamp objects o lag is_incremental query columns may kept = record {
  created = omega arith;
  older = all_map (λ id. id ≤ length objects) (IsOlder (objects ++ o ∷ []) stamp)
      (λ id here. older_follows (suc stamp) stamp objects (objects ++ o ∷ []) (more_follow (suc stamp) objects o) id
      here (all_older stamp objects kept id))
      (ids_read query) (ids_read_hold (λ id. id ≤ length objects) (omega arith) query may.reads);
  moment = omega arith;
  tried = omega arith;
  timely = tt;
  rise = tt;
  below = tt;
  none_returns = tt;
  mode = λ is. subst (λ (b : BoundQuery). IsTrue (incrementable b.query))
      (sym (bound_follows (suc stamp) objects (objects ++ o ∷ []) (more_follow (suc stamp) objects o) query may.reads))
      (may.mode is);
  kept = subst (λ (first : Option Kept). IsKeptAs first (kept_for objects is_incremental query))
      (sym (kept_follows (suc stamp) objects (objects ++ o ∷ []) (more_follow (suc stamp) objects o) is_incremental
      query may.reads)) (kept_as (kept_for objects is_incremental query));
  stands = λ some. absurd (omega (arith, some));
  none = λ zero. refl;
  no_groups = λ zero. none_first is_incremental (grouping_bound objects query);
}
  where
    kept_as : (kept : Option Kept) → IsKeptAs kept kept
    kept_as None = refl
    kept_as (Some k) = (refl, refl)

    none_first : (is_incremental : Bool) (found : Option Grouping)
        → IfSome (cond is_incremental (option_map kept_first found) None) (λ k. k.groups ≡ empty)
    none_first false found = tt
    none_first true None = tt
    none_first true (Some g) = refl

reads_same : (lag : ℕ) (is_incremental : Bool) (kept : Option Kept) (query : DynamicQuery) (d : Dynamic)
    → Some (new_dynamic lag is_incremental kept query) ≡ Some d → query ≡ d.query
reads_same lag is_incremental kept query d is =
    let same : new_dynamic lag is_incremental kept query ≡ d = cc in ap (λ (e : Dynamic). e.query) same

-- ---- another state of a dynamic table

-- it has stood for a moment, and for a later one what it reads has the same rows
pub record IsNothingNew (stamp : ℕ) (objects : List Object) (d : Dynamic) (moment : ℕ) : Type 0 where
  pub some : 0 < d.state.moment
  pub later : d.state.moment ≤ moment
  pub within : moment ≤ stamp
  pub sources : StandAt moment objects (ids_read d.query)
  pub same : AllByRecursion (λ id. bag_at objects moment id ≡ bag_at objects d.state.moment id) (ids_read d.query)

-- its moment stays, or nothing is new for another
pub record MayPut (stamp : ℕ) (objects : List Object) (state : DynamicState) (d : Dynamic) : Type 0 where
  pub tried : state.tried ≤ stamp
  pub moment : (state.moment ≡ d.state.moment) ⊎ IsNothingNew stamp objects d state.moment

-- what stands for a moment stands for earlier ones
stand_earlier : (objects : List Object) (earlier later : ℕ) → earlier ≤ later → (ids : List ℕ)
    → StandFrom later objects ids → StandFrom earlier objects ids
stand_earlier objects earlier later h ids stand =
    all_map (λ id. IfSome (dynamic_at objects id) (λ e. later ≤ e.state.moment))
    (λ id. IfSome (dynamic_at objects id) (λ e. earlier ≤ e.state.moment))
    (λ id up. by_found (dynamic_at objects id) up) ids stand
  where
    by_found : (found : Option Dynamic) → IfSome found (λ e. later ≤ e.state.moment)
        → IfSome found (λ e. earlier ≤ e.state.moment)
    by_found None up = tt
    by_found (Some e) up = omega (arith, h, up)

put_later : (stamp : ℕ) (objects : List Object) (state : DynamicState) (d : Dynamic)
    → (state.moment ≡ d.state.moment) ⊎ IsNothingNew stamp objects d state.moment → d.state.moment ≤ state.moment
put_later stamp objects state d (inl same) = omega (arith, same)
put_later stamp objects state d (inr is) = is.later

put_sound : (stamp : ℕ) (objects all : List Object) (state : DynamicState) (d : Dynamic) (t : Table)
    → IsKept stamp objects → MayPut stamp objects state d → IsThere objects d.query → Follows (suc stamp) objects all
    → IsSoundDynamic stamp all d t
    → IsSoundDynamic stamp all (with_dynamic_state state d) t
unfolding evaluated_at groups_at written_out
put_sound stamp objects all state d t kept may there follows sound = by_moment may.moment
  where
    stand : IsNothingNew stamp objects d state.moment → StandFrom state.moment objects (ids_read d.query)
    stand is = stand_from state.moment objects (ids_read d.query) is.sources

    stand_before : IsNothingNew stamp objects d state.moment → StandFrom d.state.moment objects (ids_read d.query)
    stand_before is = stand_earlier objects d.state.moment state.moment is.later (ids_read d.query) (stand is)

    -- what it gives is what it gave before
    gives : IsNothingNew stamp objects d state.moment
        → evaluated_at objects state.moment d ≡ Some (bag_of (values (last_rows t)))
    gives is =
        evaluated_same objects objects d.state.moment state.moment d refl is.same
        ∙ sym (evaluated_follows (suc stamp) d.state.moment objects all follows d there (omega (arith, sound.moment))
        (stand_before is))
        ∙ (sound.stands is.some).rows

    groups_are : IsNothingNew stamp objects d state.moment
        → groups_at all state.moment d ≡ groups_at all d.state.moment d
    groups_are is =
        groups_follow (suc stamp) state.moment objects all follows d there (omega (arith, is.within)) (stand is)
        ∙ groups_same objects objects d.state.moment state.moment d refl is.same
        ∙ sym (groups_follow (suc stamp) d.state.moment objects all follows d there (omega (arith, sound.moment))
        (stand_before is))

    with_moment : state.moment ≤ stamp → (d.state.moment ≤ state.moment)
        → (0 < state.moment → StandsFor all (with_dynamic_state state d) t)
        → (state.moment ≡ 0 → d.state.moment ≡ 0) → IsSoundDynamic stamp all (with_dynamic_state state d) t
    with_moment within later stands none = record {
      created = sound.created;
      older = sound.older;
      moment = within;
      tried = may.tried;
      timely = all_map (IsTimelyFor stamp d.state.moment) (IsTimelyFor stamp state.moment)
          (λ u timely. record { stamp = timely.stamp; data_timestamp = omega (arith, timely.data_timestamp, later) })
          t.versions sound.timely;
      rise = sound.rise;
      below = sound.below;
      none_returns = sound.none_returns;
      mode = sound.mode;
      kept = sound.kept;
      stands = stands;
      none = λ zero. sound.none (none zero);
      no_groups = λ zero. sound.no_groups (none zero);
    }

    by_moment : (state.moment ≡ d.state.moment) ⊎ IsNothingNew stamp objects d state.moment
        → IsSoundDynamic stamp all (with_dynamic_state state d) t
    by_moment (inl same) = with_moment (omega (arith, same, sound.moment)) (omega (arith, same))
        (λ some. let was = sound.stands (omega (arith, same, some)) in record {
          rows = ap (λ (time : ℕ). evaluated_at all time d) same ∙ was.rows;
          groups = IfSome_then d.kept was.groups (λ k is. ap (λ (time : ℕ). groups_at all time d) same ∙ is);
          sources = subst (λ (time : ℕ). StandFrom time all (ids_read d.query)) (sym same) was.sources;
          whole = λ layers enough.
              ap (λ (time : ℕ). written_out (over_tables layers all time) all d) same ∙ was.whole layers enough;
        })
        (λ zero. omega (arith, same, zero))
    by_moment (inr is) = with_moment is.within is.later (λ some. record {
      rows = evaluated_follows (suc stamp) state.moment objects all follows d there (omega (arith, is.within))
          (stand is) ∙ gives is;
      groups = IfSome_then d.kept (sound.stands is.some).groups (λ k were. groups_are is ∙ were);
      sources = all_stand (suc stamp) state.moment objects all follows d there (stand is);
      whole = λ layers enough.
          written_follows (suc stamp) state.moment objects all follows kept.earlier (omega (arith, is.within)) layers d
          there
          ∙ written_evaluated stamp state.moment layers objects kept some d is.sources enough
          ∙ gives is;
    }) (λ zero. omega (arith, zero, is.later))

put_kept : (stamp : ℕ) (objects : List Object) (id : ℕ) (state : DynamicState)
    → IfSome (dynamic_at objects id) (MayPut stamp objects state) → IsKept stamp objects
    → IsKept stamp (changed_at objects id (on_dynamic_object (with_dynamic_state state)))
put_kept stamp objects id state may kept =
    changed_kept (suc stamp) stamp objects id f kept (moments_within stamp objects kept)
    (λ o there. next o.kind (may_at o there))
    (λ follows o there. sound follows o there o.kind refl (may_at o there)
    (kind_follows (suc stamp) stamp objects (changed_at objects id f) follows kept (moments_within stamp objects kept)
    id o there))
  where
    f : Object → Object
    f = on_dynamic_object (with_dynamic_state state)

    may_at : (o : Object) → at_id objects id ≡ Some o → IfSome (dynamic_in o.kind) (MayPut stamp objects state)
    may_at o there = subst (λ (found : Option Object).
        IfSome (option_and_then as_dynamic found) (MayPut stamp objects state)) there may

    next : (k : Kind) → IfSome (dynamic_in k) (MayPut stamp objects state)
        → IsNextKind (suc stamp) k (on_dynamic (with_dynamic_state state) k)
    next (TableKind t) may = next_same (suc stamp) (TableKind t)
    next (StreamKind s) may = next_same (suc stamp) (StreamKind s)
    next (TaskKind t) may = next_task
    next (DynamicKind d t) may =
        next_dynamic refl refl refl (put_later stamp objects state d may.moment) (λ time up. refl)

    sound : Follows (suc stamp) objects (changed_at objects id f) → (o : Object) → at_id objects id ≡ Some o
        → (k : Kind) → o.kind ≡ k → IfSome (dynamic_in k) (MayPut stamp objects state)
        → IsSoundKind stamp (changed_at objects id f) k
        → IsSoundKind stamp (changed_at objects id f) (on_dynamic (with_dynamic_state state) k)
    sound follows o there (TableKind t) is may was = was
    sound follows o there (StreamKind s) is may was = was
    sound follows o there (TaskKind t) is may was = tt
    sound follows o there (DynamicKind d t) is may was =
        put_sound stamp objects (changed_at objects id f) state d t kept may
        (reads_there objects id d kept.earlier (dynamic_there objects id o d t there is)) follows was

-- ---- a refresh

-- of a dynamic table
abbrev pub MayRefreshKind : ℕ → List Object → ℕ → Edits → Option GroupsChange → DynamicState → Kind → Type 0
MayRefreshKind stamp objects moment e c state (DynamicKind d t) = IsRefreshed stamp objects d t moment e c state
MayRefreshKind stamp objects moment e c state _ = ⊥

abbrev pub MayRefresh : ℕ → List Object → ℕ → ℕ → Edits → Option GroupsChange → DynamicState → Type 0
MayRefresh stamp objects id moment e c state =
    IsSomeAnd (at_id objects id) (λ o. MayRefreshKind stamp objects moment e c state o.kind)

-- with its next version and its groups, and in another state
abbrev brought_object : ℕ → ℕ → Edits → Option GroupsChange → DynamicState → Object → Object
brought_object stamp moment e c state o =
    on_dynamic_object (with_dynamic_state state) (refreshed_object stamp moment e c o)

-- among what is there after it
refresh_sound : (stamp : ℕ) (objects all : List Object) (moment : ℕ) (e : Edits) (c : Option GroupsChange)
    (state : DynamicState) (d : Dynamic) (t : Table) → IsKept stamp objects
    → IsRefreshed stamp objects d t moment e c state → IsThere objects d.query
    → Follows (suc stamp) objects all → IsSoundDynamic stamp all d t
    → IsSoundDynamic stamp all (with_dynamic_state state (with_groups c d)) (edited_table stamp moment e t)
refresh_sound stamp objects all moment e c state d t kept is there follows was =
    let stand : StandFrom moment objects (ids_read d.query) =
    stand_from moment objects (ids_read d.query) is.sources in
    refreshed_sound stamp objects all d t moment e c state is
    (all_stand (suc stamp) moment objects all follows d there stand)
    (evaluated_follows (suc stamp) moment objects all follows d there (omega (arith, is.within)) stand)
    (groups_follow (suc stamp) moment objects all follows d there (omega (arith, is.within)) stand)
    (λ layers enough.
    written_follows (suc stamp) moment objects all follows kept.earlier (omega (arith, is.within)) layers d there
    ∙ written_evaluated stamp moment layers objects kept (omega (arith, is.later)) d is.sources enough) was

refreshed_kept : (stamp : ℕ) (objects : List Object) (id moment : ℕ) (e : Edits) (c : Option GroupsChange)
    (state : DynamicState) → MayRefresh stamp objects id moment e c state → IsKept stamp objects
    → IsKept stamp (acted stamp (acted stamp objects (RefreshesRows id moment e c)) (PutsDynamic id state))
unfolding edited_table
refreshed_kept stamp objects id moment e c state may kept =
    subst (IsKept stamp) (sym (changed_twice (refreshed_object stamp moment e c)
    (on_dynamic_object (with_dynamic_state state)) objects id))
    (changed_kept (suc stamp) stamp objects id f kept (moments_within stamp objects kept)
    (λ o there. next o.kind (may_at o there))
    (λ follows o there. sound follows o there o.kind refl (may_at o there)
    (kind_follows (suc stamp) stamp objects (changed_at objects id f) follows kept (moments_within stamp objects kept)
    id o there)))
  where
    f : Object → Object
    f = brought_object stamp moment e c state

    may_at : (o : Object) → at_id objects id ≡ Some o → MayRefreshKind stamp objects moment e c state o.kind
    may_at o there = subst (λ (found : Option Object).
        IsSomeAnd found (λ o. MayRefreshKind stamp objects moment e c state o.kind)) there may

    same_query : (c : Option GroupsChange) (d : Dynamic) → (with_groups c d).query ≡ d.query
    same_query None d = refl
    same_query (Some c) d = refl

    next : (k : Kind) → MayRefreshKind stamp objects moment e c state k
        → IsNextKind (suc stamp) k (on_dynamic (with_dynamic_state state) (refreshed_kind stamp moment e c k))
    next (TableKind t) may = absurd may
    next (StreamKind s) may = absurd may
    next (TaskKind t) may = absurd may
    next (DynamicKind d t) may = next_dynamic (same_query c d) refl refl (omega (arith, may.later, may.brought))
        (λ time up. rows_kept stamp moment e t time (omega (arith, up, may.later)))

    sound : Follows (suc stamp) objects (changed_at objects id f) → (o : Object) → at_id objects id ≡ Some o
        → (k : Kind) → o.kind ≡ k → MayRefreshKind stamp objects moment e c state k
        → IsSoundKind stamp (changed_at objects id f) k
        → IsSoundKind stamp (changed_at objects id f)
        (on_dynamic (with_dynamic_state state) (refreshed_kind stamp moment e c k))
    sound follows o there (TableKind t) is may was = absurd may
    sound follows o there (StreamKind s) is may was = absurd may
    sound follows o there (TaskKind t) is may was = absurd may
    sound follows o there (DynamicKind d t) is may was =
        refresh_sound stamp objects (changed_at objects id f) moment e c state d t kept may
        (reads_there objects id d kept.earlier (dynamic_there objects id o d t there is)) follows was

-- ---- acts, one after the other

-- each over the objects that those before it leave
pub data AreKeeping (stamp : ℕ) : List Object → List Act → Type 0 where
  no_act : {objects : List Object} → AreKeeping stamp objects []
  still_act : {objects : List Object} {act : Act} {acts : List Act} → IsStill stamp act
      → AreKeeping stamp (acted stamp objects act) acts → AreKeeping stamp objects (act ∷ acts)
  edit_act : {objects : List Object} {id : ℕ} {e : Edits} {acts : List Act} → MayEdit stamp objects id
      → AreKeeping stamp (acted stamp objects (EditsRows id e)) acts → AreKeeping stamp objects (EditsRows id e ∷ acts)
  make_act : {objects : List Object} {name : List ℕ} {lag : ℕ} {is_incremental : Bool} {query : DynamicQuery}
      {columns : List Column} {acts : List Act} → MayMake objects is_incremental query
      → AreKeeping stamp (acted stamp objects (MakesDynamic name lag is_incremental query columns)) acts
      → AreKeeping stamp objects (MakesDynamic name lag is_incremental query columns ∷ acts)
  put_act : {objects : List Object} {id : ℕ} {state : DynamicState} {acts : List Act}
      → IfSome (dynamic_at objects id) (MayPut stamp objects state)
      → AreKeeping stamp (acted stamp objects (PutsDynamic id state)) acts
      → AreKeeping stamp objects (PutsDynamic id state ∷ acts)
  refresh_acts : {objects : List Object} {id moment : ℕ} {e : Edits} {c : Option GroupsChange} {state : DynamicState}
      {acts : List Act} → MayRefresh stamp objects id moment e c state
      → AreKeeping stamp (acted stamp (acted stamp objects (RefreshesRows id moment e c)) (PutsDynamic id state)) acts
      → AreKeeping stamp objects (RefreshesRows id moment e c ∷ PutsDynamic id state ∷ acts)

pub acts_kept : (stamp : ℕ) (objects : List Object) (acts : List Act) → AreKeeping stamp objects acts
    → IsKept stamp objects
    → IsKept stamp (all_acted stamp objects acts)
acts_kept stamp objects acts no_act kept = kept
acts_kept stamp objects (act ∷ acts) (still_act still rest) kept =
    acts_kept stamp (acted stamp objects act) acts rest (still_kept stamp objects act still kept)
acts_kept stamp objects (EditsRows id e ∷ acts) (edit_act may rest) kept =
    acts_kept stamp (acted stamp objects (EditsRows id e)) acts rest (edited_kept stamp objects id e may kept)
acts_kept stamp objects (MakesDynamic name lag is_incremental query columns ∷ acts) (make_act may rest) kept =
    acts_kept stamp (acted stamp objects (MakesDynamic name lag is_incremental query columns)) acts rest
    (more_kept stamp objects _ kept (made_sound stamp objects _ lag is_incremental query columns may kept)
    (λ d is. subst (λ (q : DynamicQuery). IsThere objects q) (reads_same lag is_incremental _ query d is) may.reads))
acts_kept stamp objects (PutsDynamic id state ∷ acts) (put_act may rest) kept =
    acts_kept stamp (acted stamp objects (PutsDynamic id state)) acts rest (put_kept stamp objects id state may kept)
acts_kept stamp objects all (refresh_acts {id} {moment} {e} {c} {state} {acts} may rest) kept =
    acts_kept stamp (acted stamp (acted stamp objects (RefreshesRows id moment e c)) (PutsDynamic id state)) acts rest
    (refreshed_kept stamp objects id moment e c state may kept)

pub keeping_append : (stamp : ℕ) (objects : List Object) (xs ys : List Act) → AreKeeping stamp objects xs
    → AreKeeping stamp (all_acted stamp objects xs) ys
    → AreKeeping stamp objects (xs ++ ys)
keeping_append stamp objects xs ys no_act others = others
keeping_append stamp objects (act ∷ acts) ys (still_act still rest) others =
    still_act still (keeping_append stamp (acted stamp objects act) acts ys rest others)
keeping_append stamp objects (EditsRows id e ∷ acts) ys (edit_act may rest) others =
    edit_act may (keeping_append stamp (acted stamp objects (EditsRows id e)) acts ys rest others)
keeping_append stamp objects (MakesDynamic name lag is_incremental query columns ∷ acts) ys (make_act may rest) others =
    make_act may (keeping_append stamp (acted stamp objects (MakesDynamic name lag is_incremental query columns)) acts
    ys rest others)
keeping_append stamp objects (PutsDynamic id state ∷ acts) ys (put_act may rest) others =
    put_act may (keeping_append stamp (acted stamp objects (PutsDynamic id state)) acts ys rest others)
keeping_append stamp objects all ys (refresh_acts {id} {moment} {e} {c} {state} {acts} may rest) others =
    refresh_acts may (keeping_append stamp
    (acted stamp (acted stamp objects (RefreshesRows id moment e c)) (PutsDynamic id state)) acts ys rest others)

-- ---- states

-- no object, no stamp
pub sound_first : Sound first_state
sound_first = record { ordered = omega arith; objects = tt; earlier = λ id d is. absurd (none_there id d is) }
  where
    none_there : (id : ℕ) (d : Dynamic) → dynamic_at first_state.objects id ≡ Some d → ⊥
    none_there zero d is = cc
    none_there (suc place) d is = cc

-- a state as the file keeps it
pub sound_rest : (s : State) → Sound s → Sound (at_rest s)
sound_rest s sound = record { ordered = omega arith; objects = sound.objects; earlier = sound.earlier }

kind_later : (committed stamp : ℕ) → committed ≤ stamp → (all : List Object) (k : Kind) → IsSoundKind committed all k
    → IsSoundKind stamp all k
kind_later committed stamp later all (TableKind t) sound = table_later committed stamp later t sound
kind_later committed stamp later all (StreamKind s) sound = omega (arith, sound)
kind_later committed stamp later all (TaskKind t) sound = tt
kind_later committed stamp later all (DynamicKind d t) sound = record {
  created = omega (arith, sound.created);
  older = sound.older;
  moment = omega (arith, sound.moment);
  tried = omega (arith, sound.tried);
  timely = all_map (IsTimelyFor committed d.state.moment) (IsTimelyFor stamp d.state.moment)
      (λ v timely. record { stamp = omega (arith, timely.stamp); data_timestamp = timely.data_timestamp })
      t.versions sound.timely;
  rise = sound.rise;
  below = sound.below;
  none_returns = sound.none_returns;
  mode = sound.mode;
  kept = sound.kept;
  stands = sound.stands;
  none = sound.none;
  no_groups = sound.no_groups;
}

-- the objects of a sound state at a later stamp
pub kept_later : (s : State) (stamp : ℕ) → s.committed ≤ stamp → Sound s → IsKept stamp s.objects
kept_later s stamp later sound = kept_of stamp s.objects
    (all_map (IsSoundObject s.committed s.objects) (IsSoundObject stamp s.objects)
    (λ o h. kind_later s.committed stamp later s.objects o.kind h) s.objects sound.objects) sound.earlier

-- a commit of such acts at a stamp past the last commit
pub sound_done : (s : State) → s.committed < s.last → Sound s → (acts : List Act) → AreKeeping s.last s.objects acts
    → Sound (done s acts)
sound_done s later sound acts keeping =
    let kept : IsKept s.last (all_acted s.last s.objects acts) =
    acts_kept s.last s.objects acts keeping (kept_later s s.last (omega (arith, later)) sound) in
    record {
      ordered = omega arith;
      objects = all_sound s.last (all_acted s.last s.objects acts) kept;
      earlier = kept.earlier;
    }
