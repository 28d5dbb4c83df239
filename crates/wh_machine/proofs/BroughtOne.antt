-- What a refresh does to one table keeps objects sound.
--     IsReadyTo                  a table that is brought to a moment, and for which all that it reads stands
--     one_keeps                  the acts of one table
--     one_spares, one_stands     what they leave
--     brought_moment             the moment that they bring it to
use Rattle.std.proofs.Common.{◌≡◌, ℕ, ◌<◌, ◌≤◌, inr, Bool, true, false, cond, List, [], ◌∷◌}
use Rattle.std.proofs.Common.{◌++◌, Option, Some, None, option_map, refl, sym, ap, subst, ◌∙◌, arith}
use Rattle.std.specs.Prelude.{◌&&◌, ◌||◌, nat_eq, nat_lt, nat_le}
use Rattle.std.specs.List.{AllByRecursion, list_any}
use Rattle.std.specs.Option.{IfSome, IsSomeAnd, option_and_then, option_map_or}
use Rattle.std.specs.FinMap.{entries, values}
use Rattle.std.proofs.lemmas.Bool.Decides.{nat_tests}
use Rattle.wh_meaning.specs.Bag.{Bag, bag_of, no_rows}
use Rattle.wh_reply.specs.Reply.{RefreshAction, NoData, Full, Incremental}
use Rattle.wh_state.specs.State.{Version, Kind, TableKind, StreamKind, TaskKind, DynamicKind, Object, Table, at_id}
use Rattle.wh_state.specs.State.{changed_at, put_at, table_in, dynamic_in, last_rows, rows_at, nothing_held}
use Rattle.wh_state.specs.State.{content_in, last_of}
use Rattle.wh_state.specs.State.{on_dynamic}
use Rattle.wh_state.specs.Dynamic.{DynamicState, Dynamic, ids_read, with_dynamic_state}
use Rattle.wh_state.specs.Objects.{as_table, as_dynamic, table_at, dynamic_at}
use Rattle.wh_state.specs.Edits.{Edits}
use Rattle.wh_state.specs.Moments.{bag_at, evaluated_at}
use Rattle.wh_state.specs.Act.{PutsDynamic, refreshed_object, on_dynamic_object, all_acted}
use Rattle.wh_state.specs.Sound.{IsSoundDynamic}
use Rattle.wh_state.proofs.AllLaws.{filter_same}
use Rattle.wh_state.proofs.IdLaws.{at_spared}
use Rattle.wh_state.proofs.FoundLaws.{at_same}
use Rattle.wh_state.proofs.VersionLaws.{last_below}
use Rattle.wh_state.proofs.EvaluatedLaws.{StandAt}
use Rattle.wh_state.proofs.SoundObjects.{IsKept, IsDynamicAt, found_dynamic, dynamic_there, sound_at}
use Rattle.wh_state.proofs.SoundTables.{IsFresh}
use Rattle.wh_state.proofs.SoundLaws.{MayPut, MayRefreshKind, MayRefresh, AreKeeping, no_act, put_act}
use Rattle.wh_state.proofs.SoundLaws.{refresh_acts}
use Rattle.wh_moment.specs.Moment.{brought_to}
use Rattle.wh_moment.specs.Rebase.{rebase}
use Rattle.wh_moment.proofs.RebaseLaws.{rebased}
use Rattle.wh_machine.specs.Refresh.{has_version_between, has_new_data, action_of, Brought, brought_as}
use Rattle.wh_machine.specs.Refresh.{brought_by, brought_with, brought_one, acts_of_one}
use Rattle.wh_machine.specs.Refresh.{by_mode}
use Rattle.wh_machine.specs.Refresh.{version_acts, groups_brought}
use Rattle.wh_machine.proofs.GotLaws.{entries_hold}
use Rattle.wh_machine.proofs.GroupsBrought.{groups_kept}

-- ---- nothing new

no_version : (from to : ℕ) → from ≤ to → (versions : List Version)
    → list_any (λ v. nat_lt from v.data_timestamp && nat_le v.data_timestamp to) versions ≡ false
    → AllByRecursion (λ v. nat_le v.data_timestamp to ≡ nat_le v.data_timestamp from) versions
no_version from to h [] none = tt
no_version from to h (v ∷ vs) none =
    let both = neither (nat_lt from v.data_timestamp && nat_le v.data_timestamp to) _ none in
    (same from to v.data_timestamp h both.0, no_version from to h vs both.1)
  where
    neither : (a b : Bool) → (a || b) ≡ false → (a ≡ false) × (b ≡ false)
    neither true b is = absurd cc
    neither false b is = (refl, is)

    same : (from to time : ℕ) → from ≤ to → (nat_lt from time && nat_le time to) ≡ false
        → nat_le time to ≡ nat_le time from
    same from to time h test = grind (arith, nat_tests)

-- a source without a version between two moments has the same rows for both
rows_same : (objects : List Object) (from to : ℕ) → from ≤ to → (ids : List ℕ)
    → has_new_data objects from to ids ≡ false
    → AllByRecursion (λ id. bag_at objects to id ≡ bag_at objects from id) ids
rows_same objects from to h [] none = tt
rows_same objects from to h (id ∷ ids) none =
    let both = neither (option_map_or (has_version_between from to) (table_at objects id) false) _ none in
    (by_found (table_at objects id) both.0, rows_same objects from to h ids both.1)
  where
    neither : (a b : Bool) → (a || b) ≡ false → (a ≡ false) × (b ≡ false)
    neither true b is = absurd cc
    neither false b is = (refl, is)

    by_found : (found : Option Table) → option_map_or (has_version_between from to) found false ≡ false
        → option_map_or (λ t. bag_of (values (rows_at t to))) found no_rows
        ≡ option_map_or (λ t. bag_of (values (rows_at t from))) found no_rows
    by_found None none = refl
    by_found (Some t) none = ap (λ (vs : List Version). bag_of (values (content_in nothing_held (last_of vs)).rows))
        (filter_same (λ v. nat_le v.data_timestamp to) (λ v. nat_le v.data_timestamp from) t.versions
        (no_version from to h t.versions none))

-- ---- one table

-- what it reads stands for the moment
abbrev pub IsReadyTo : ℕ → List Object → Dynamic → Type 0
IsReadyTo moment objects d = (d.state.moment < moment) × StandAt moment objects (ids_read d.query)

-- the numbers of a dynamic table's rows
rows_below : (stamp : ℕ) (objects : List Object) (d : Dynamic) (t : Table) → IsSoundDynamic stamp objects d t
    → AllByRecursion (λ e. e.0 < t.next_row) (entries (last_rows t))
rows_below stamp objects d t sound = entries_hold (λ number row. number < t.next_row) (last_rows t)
    (λ number row is. last_below t.next_row t.versions sound.below number row is)

-- its dynamic table, and its rows
record IsOne (stamp : ℕ) (objects : List Object) (id : ℕ) (d : Dynamic) (t : Table) : Type 0 where
  object : Object
  there : at_id objects id ≡ Some object
  kind : object.kind ≡ DynamicKind d t
  sound : IsSoundDynamic stamp objects d t
  fresh : IsFresh stamp t

refreshes_one : (stamp moment : ℕ) (objects : List Object) (id : ℕ) (d : Dynamic) (t : Table) (rows : Bag)
    → moment ≤ stamp → IsOne stamp objects id d t → IsReadyTo moment objects d
    → evaluated_at objects moment d ≡ Some rows
    → MayRefresh stamp objects id moment (rebase (last_rows t) rows) (groups_brought objects moment d)
    (brought_to moment d.state)
refreshes_one stamp moment objects id d t rows within one ready is =
    subst (λ (found : Option Object). IsSomeAnd found (λ o. May o.kind)) (sym one.there)
    (subst May (sym one.kind) (record {
      fresh = one.fresh;
      later = ready.0;
      within = within;
      sources = ready.1;
      rows = is ∙ ap Some (sym (rebased t.next_row (last_rows t) rows (rows_below stamp objects d t one.sound)));
      groups = groups_kept stamp moment objects d t rows one.sound is;
      brought = refl;
      tried = omega arith;
    }))
  where
    May : Kind → Type 0
    May = MayRefreshKind stamp objects moment (rebase (last_rows t) rows) (groups_brought objects moment d)
        (brought_to moment d.state)

-- a table that has stood for a moment before, and finds nothing new
leaves_one : (stamp moment : ℕ) (objects : List Object) (id : ℕ) (d : Dynamic) → moment ≤ stamp → 0 < d.state.moment
    → IsReadyTo moment objects d → has_new_data objects d.state.moment moment (ids_read d.query) ≡ false
    → MayPut stamp objects (brought_to moment d.state) d
leaves_one stamp moment objects id d within some ready none = record {
  tried = omega arith;
  moment = inr (record {
    some = some;
    later = omega (arith, ready.0);
    within = within;
    sources = ready.1;
    same = rows_same objects d.state.moment moment (omega (arith, ready.0)) (ids_read d.query) none;
  });
}

-- the acts of an evaluation
evaluated_keeps : (stamp moment : ℕ) (objects : List Object) (id : ℕ) (d : Dynamic) (t : Table) (b : Brought)
    (action : RefreshAction) (found : Option Bag) → moment ≤ stamp → IsOne stamp objects id d t
    → IsReadyTo moment objects d → evaluated_at objects moment d ≡ found
    → option_map (λ rows. brought_as id moment d.state action (Some (rebase (last_rows t) rows))
    (groups_brought objects moment d)) found ≡ Some b
    → AreKeeping stamp objects (acts_of_one moment b)
evaluated_keeps stamp moment objects id d t b action None within one ready found is = absurd cc
evaluated_keeps stamp moment objects id d t b action (Some rows) within one ready found is =
    let same : brought_as id moment d.state action (Some (rebase (last_rows t) rows)) (groups_brought objects moment d)
    ≡ b = cc in
    subst (λ (x : Brought). AreKeeping stamp objects (acts_of_one moment x)) same
    (refresh_acts (refreshes_one stamp moment objects id d t rows within one ready found) no_act)

-- the act of a table that finds nothing new
leaving_keeps : (stamp moment : ℕ) (objects : List Object) (id : ℕ) (d : Dynamic) (b : Brought) → moment ≤ stamp
    → dynamic_at objects id ≡ Some d → 0 < d.state.moment → IsReadyTo moment objects d
    → has_new_data objects d.state.moment moment (ids_read d.query) ≡ false
    → Some (brought_as id moment d.state NoData None None) ≡ Some b
    → AreKeeping stamp objects (acts_of_one moment b)
leaving_keeps stamp moment objects id d b within at some ready none is =
    let same : brought_as id moment d.state NoData None None ≡ b = cc in
    subst (λ (x : Brought). AreKeeping stamp objects (acts_of_one moment x)) same
    (put_act (subst (λ (found : Option Dynamic). IfSome found (MayPut stamp objects (brought_to moment d.state)))
    (sym at) (leaves_one stamp moment objects id d within some ready none)) no_act)

one_by : (stamp moment : ℕ) (objects : List Object) (id : ℕ) (d : Dynamic) (t : Table) (b : Brought) → moment ≤ stamp
    → IsOne stamp objects id d t → IsReadyTo moment objects d
    → brought_by objects moment id d t (action_of objects moment d) ≡ Some b
    → AreKeeping stamp objects (acts_of_one moment b)
one_by stamp moment objects id d t b within one ready is =
    by_tests (nat_eq d.state.moment 0) (has_new_data objects d.state.moment moment (ids_read d.query)) refl refl is
  where
    has_some : (n : ℕ) → nat_eq n 0 ≡ false → 0 < n
    has_some n test = grind (arith, nat_tests)

    by_mode_of : (is_incremental : Bool) → brought_by objects moment id d t (by_mode is_incremental) ≡ Some b
        → AreKeeping stamp objects (acts_of_one moment b)
    by_mode_of true is = evaluated_keeps stamp moment objects id d t b Incremental (evaluated_at objects moment d)
        within one ready refl is
    by_mode_of false is = evaluated_keeps stamp moment objects id d t b Full (evaluated_at objects moment d) within one
        ready refl is

    by_tests : (none new : Bool) → nat_eq d.state.moment 0 ≡ none
        → has_new_data objects d.state.moment moment (ids_read d.query) ≡ new
        → brought_by objects moment id d t (cond none Full (cond new (by_mode d.is_incremental) NoData)) ≡ Some b
        → AreKeeping stamp objects (acts_of_one moment b)
    by_tests true new none found is = by_mode_of false is
    by_tests false true none found is = by_mode_of d.is_incremental is
    by_tests false false none found is = leaving_keeps stamp moment objects id d b within
        (dynamic_there objects id one.object d t one.there one.kind) (has_some d.state.moment none) ready found is

-- where it is a dynamic table, it is sound and fresh
pub one_keeps : (stamp moment : ℕ) (objects : List Object) (id : ℕ) (b : Brought) → moment ≤ stamp
    → IsKept stamp objects → IfSome (table_at objects id) (IsFresh stamp)
    → IfSome (dynamic_at objects id) (IsReadyTo moment objects) → brought_one objects moment id ≡ Some b
    → AreKeeping stamp objects (acts_of_one moment b)
unfolding brought_one
one_keeps stamp moment objects id b within kept fresh ready is =
    by_dynamic (dynamic_at objects id) refl ready is
  where
    by_at : (d : Dynamic) → IsDynamicAt objects id d → IsReadyTo moment objects d
        → brought_with objects moment id (Some d) (table_at objects id) ≡ Some b
        → AreKeeping stamp objects (acts_of_one moment b)
    by_at d at ready is =
        let table : table_at objects id ≡ Some at.table =
        ap (option_and_then as_table) at.there ∙ ap table_in at.kind in
        one_by stamp moment objects id d at.table b within (record {
          object = at.object;
          there = at.there;
          kind = at.kind;
          sound = sound_at stamp objects id d kept at;
          fresh = subst (λ (found : Option Table). IfSome found (IsFresh stamp)) table fresh;
        }) ready (ap (brought_with objects moment id (Some d)) (sym table) ∙ is)

    by_dynamic : (found : Option Dynamic) → dynamic_at objects id ≡ found → IfSome found (IsReadyTo moment objects)
        → brought_with objects moment id found (table_at objects id) ≡ Some b
        → AreKeeping stamp objects (acts_of_one moment b)
    by_dynamic None at ready is = absurd cc
    by_dynamic (Some d) at ready is = by_at d (found_dynamic objects id d at) ready is

-- ---- what it leaves

-- other objects are as they were
pub one_spares : (stamp moment : ℕ) (objects : List Object) (b : Brought) (other : ℕ) → (other ≡ b.id → ⊥)
    → at_id (all_acted stamp objects (acts_of_one moment b)) other ≡ at_id objects other
one_spares stamp moment objects b other apart = by_edits b.edits
  where
    put : Object → Object
    put = on_dynamic_object (with_dynamic_state b.state)

    by_edits : (edits : Option Edits)
        → at_id (all_acted stamp objects (version_acts b.id moment edits b.groups ++ PutsDynamic b.id b.state ∷ [])) other
        ≡ at_id objects other
    by_edits None = at_spared put objects b.id other apart
    by_edits (Some e) =
        at_spared put (changed_at objects b.id (refreshed_object stamp moment e b.groups)) b.id other apart
        ∙ at_spared (refreshed_object stamp moment e b.groups) objects b.id other apart

-- a state that is put in is there
put_stands : (objects : List Object) (id : ℕ) (state : DynamicState)
    → IfSome (dynamic_at (changed_at objects id (on_dynamic_object (with_dynamic_state state))) id)
    (λ e. e.state.moment ≡ state.moment)
put_stands objects id state = by_found (at_id objects id) refl
  where
    put : Object → Object
    put = on_dynamic_object (with_dynamic_state state)

    by_kind : (k : Kind)
        → IfSome (dynamic_in (on_dynamic (with_dynamic_state state) k)) (λ e. e.state.moment ≡ state.moment)
    by_kind (TableKind t) = tt
    by_kind (StreamKind s) = tt
    by_kind (TaskKind t) = tt
    by_kind (DynamicKind d t) = refl

    by_found : (found : Option Object) → at_id objects id ≡ found
        → IfSome (dynamic_at (changed_at objects id put) id) (λ e. e.state.moment ≡ state.moment)
    by_found None none =
        let still : at_id (changed_at objects id put) id ≡ None =
        ap (λ (found : Option Object). at_id (put_at objects id (option_map put found)) id) none ∙ none in
        subst (λ (found : Option Object). IfSome (option_and_then as_dynamic found)
        (λ e. e.state.moment ≡ state.moment)) (sym still) tt
    by_found (Some o) there =
        subst (λ (found : Option Object). IfSome (option_and_then as_dynamic found)
        (λ e. e.state.moment ≡ state.moment)) (sym (at_same put objects id o there)) (by_kind o.kind)

pub one_stands : (stamp moment : ℕ) (objects : List Object) (b : Brought)
    → IfSome (dynamic_at (all_acted stamp objects (acts_of_one moment b)) b.id) (λ e. e.state.moment ≡ b.state.moment)
one_stands stamp moment objects b = by_edits b.edits
  where
    by_edits : (edits : Option Edits)
        → IfSome (dynamic_at (all_acted stamp objects (version_acts b.id moment edits b.groups ++ PutsDynamic b.id b.state ∷ []))
        b.id) (λ e. e.state.moment ≡ b.state.moment)
    by_edits None = put_stands objects b.id b.state
    by_edits (Some e) = put_stands (changed_at objects b.id (refreshed_object stamp moment e b.groups)) b.id b.state

-- what is brought stands for the moment
pub brought_moment : (objects : List Object) (moment id : ℕ) (b : Brought) → brought_one objects moment id ≡ Some b
    → b.state.moment ≡ moment
unfolding brought_one
brought_moment objects moment id b is = by_found (dynamic_at objects id) (table_at objects id) is
  where
    of_some : (x : Brought) → x.state.moment ≡ moment → Some x ≡ Some b → b.state.moment ≡ moment
    of_some x at is = let same : x ≡ b = cc in ap (λ (y : Brought). y.state.moment) (sym same) ∙ at

    by_rows : (d : Dynamic) (t : Table) (action : RefreshAction) (found : Option Bag)
        → option_map (λ rows. brought_as id moment d.state action (Some (rebase (last_rows t) rows))
        (groups_brought objects moment d)) found ≡ Some b → b.state.moment ≡ moment
    by_rows d t action None is = absurd cc
    by_rows d t action (Some rows) is = of_some _ refl is

    by_action : (d : Dynamic) (t : Table) (action : RefreshAction) → brought_by objects moment id d t action ≡ Some b
        → b.state.moment ≡ moment
    by_action d t NoData is = of_some _ refl is
    by_action d t Full is = by_rows d t Full (evaluated_at objects moment d) is
    by_action d t Incremental is = by_rows d t Incremental (evaluated_at objects moment d) is

    by_found : (d : Option Dynamic) (t : Option Table) → brought_with objects moment id d t ≡ Some b
        → b.state.moment ≡ moment
    by_found None t is = absurd cc
    by_found (Some d) None is = absurd cc
    by_found (Some d) (Some t) is = by_action d t (action_of objects moment d) is
