-- The acts of refreshes.
--     IsOfRefresh, AreOfRefresh     an act of one, and what holds of the acts of a refresh
--     brought_id, brought_ids       what is brought by a refresh are the tables that it goes over
--     IsRefresh, refresh_acts       versions by rising ids, of tables that are no base tables, and states
--     dynamic_lawful                the outcomes of dynamic tables are lawful
use Rattle.std.proofs.Common.{◌≡◌, ℕ, zero, suc, Bool, true, false, cond, List, [], ◌∷◌, ◌++◌, map, Option, Some}
use Rattle.std.proofs.Common.{None}
use Rattle.std.proofs.Common.{option_map, refl, sym, ap, subst, ◌∙◌, arith}
use Rattle.std.specs.Prelude.{slice_get}
use Rattle.std.specs.List.{AllByRecursion, flat_map}
use Rattle.std.specs.Option.{option_and_then, IsSomeAnd}
use Rattle.wh_ast.specs.declared.statement.Initialize.{Initialize}
use Rattle.wh_ast.specs.declared.statement.Initialize.TheVariants as starts
use Rattle.wh_ddl_naming.specs.DynamicTables.{NewDynamicTable}
use Rattle.wh_reply.specs.Reply.{Refusal, Reply, RefreshAction, NoData, Full, Incremental, is_refusal}
use Rattle.wh_reply.specs.Reply.{CreatedDynamicTable, RefreshedTables, RefreshFailed}
use Rattle.wh_meaning.specs.Bag.{Bag}
use Rattle.wh_state.specs.State.{State, Object, Table, Kind, TableKind, StreamKind, TaskKind, DynamicKind, last_rows}
use Rattle.wh_state.specs.State.{dynamic_in, at_id}
use Rattle.wh_state.specs.Edits.{Edits}
use Rattle.wh_state.specs.Dynamic.{DynamicQuery, DynamicState, Dynamic}
use Rattle.wh_state.specs.Moments.{evaluated_at}
use Rattle.wh_state.specs.Act.{Act, MakesTable, DropsObject, EditsRows, MakesStream, MovesOffset, MakesTask, PutsTask}
use Rattle.wh_state.specs.Act.{BeginsRun, EndsTask, MakesDynamic, PutsDynamic, RefreshesRows, all_acted}
use Rattle.wh_state.specs.Objects.{table_at, as_dynamic, dynamic_at, name_at}
use Rattle.wh_state.proofs.AllLaws.{all_map, all_append}
use Rattle.wh_state.proofs.ActLaws.{AreEditsFrom, no_more_edits, other_act, next_refresh, from_less}
use Rattle.wh_moment.specs.Upstream.{dynamics_of, brought}
use Rattle.wh_moment.specs.Moment.{behind_failure}
use Rattle.wh_moment.specs.Rebase.{rebase}
use Rattle.wh_moment.proofs.UpstreamLaws.{RiseFrom, brought_rise, IsWatched, brought_watched, watched_kind}
use Rattle.wh_machine.specs.Tests.{first_of}
use Rattle.wh_machine.specs.Refresh.{Brought, brought_as, brought_by, brought_with, brought_one, action_of}
use Rattle.wh_machine.specs.Refresh.{version_acts, groups_brought}
use Rattle.wh_machine.specs.Refresh.{acts_of_one, brought_then, brought_all, number_refusal, first_lost, told_of}
use Rattle.wh_machine.specs.Refresh.{Refreshing, Fails, Brings, unless_past, refresh_by, with_upstream, refresh}
use Rattle.wh_machine.specs.Outcome.{Machine, commits}
use Rattle.wh_machine.specs.Dynamics.{dynamic_made, with_dynamic, new_id, asked_refresh, made_with, initialized}
use Rattle.wh_machine.specs.Dynamics.{is_same_dynamic_state, puts_dynamic, alters, refreshed_by, is_fifth, failed_of}
use Rattle.wh_machine.specs.Dynamics.{scheduled_by, scheduled}
use Rattle.wh_machine.specs.Consuming.{base_in, base_at}
use Rattle.wh_machine.proofs.Lawful.{MovesOn, AllMoveOn, IsLawful, refuses}
use Rattle.wh_machine.proofs.CommitLaws.{MovesNone, unmoved, defined}

-- ---- what is brought

pub brought_id : (objects : List Object) (moment id : ℕ) (b : Brought) → brought_one objects moment id ≡ Some b
    → b.id ≡ id
unfolding brought_one
brought_id objects moment id b is = by_found (dynamic_at objects id) (table_at objects id) is
  where
    of_some : (x : Brought) → x.id ≡ id → Some x ≡ Some b → b.id ≡ id
    of_some x at is = let same : x ≡ b = cc in ap (λ (y : Brought). y.id) (sym same) ∙ at

    by_rows : (d : Dynamic) (t : Table) (action : RefreshAction) (found : Option Bag)
        → option_map (λ rows. brought_as id moment d.state action (Some (rebase (last_rows t) rows))
        (groups_brought objects moment d)) found ≡ Some b → b.id ≡ id
    by_rows d t action None is = absurd cc
    by_rows d t action (Some rows) is = of_some _ refl is

    by_action : (d : Dynamic) (t : Table) (action : RefreshAction) → brought_by objects moment id d t action ≡ Some b
        → b.id ≡ id
    by_action d t NoData is = of_some _ refl is
    by_action d t Full is = by_rows d t Full (evaluated_at objects moment d) is
    by_action d t Incremental is = by_rows d t Incremental (evaluated_at objects moment d) is

    by_found : (d : Option Dynamic) (t : Option Table) → brought_with objects moment id d t ≡ Some b → b.id ≡ id
    by_found None t is = absurd cc
    by_found (Some d) None is = absurd cc
    by_found (Some d) (Some t) is = by_action d t (action_of objects moment d) is

pub brought_ids : (stamp moment : ℕ) (ids : List ℕ) (objects : List Object) (all : List Brought)
    → brought_all stamp moment ids objects ≡ Some all → map (λ b. b.id) all ≡ ids
brought_ids stamp moment [] objects all is =
    let same : [] ≡ all = cc in ap (λ (l : List Brought). map (λ b. b.id) l) (sym same)
brought_ids stamp moment (id ∷ ids) objects all is =
    by_one (brought_one objects moment id) refl (λ next more rest. brought_ids stamp moment ids next more rest) is
  where
    by_rest : (b : Brought) → b.id ≡ id → (rest : Option (List Brought))
        → ((more : List Brought) → rest ≡ Some more → map (λ b. b.id) more ≡ ids)
        → option_map (λ more. b ∷ more) rest ≡ Some all → map (λ b. b.id) all ≡ id ∷ ids
    by_rest b at None later is = absurd cc
    by_rest b at (Some more) later is =
        let same : b ∷ more ≡ all = cc in
        ap (λ (l : List Brought). map (λ b. b.id) l) (sym same)
        ∙ ap (λ (n : ℕ). n ∷ map (λ b. b.id) more) at ∙ ap (λ (l : List ℕ). id ∷ l) (later more refl)

    by_one : (found : Option Brought) → brought_one objects moment id ≡ found
        → ((next : List Object) (more : List Brought) → brought_all stamp moment ids next ≡ Some more
        → map (λ b. b.id) more ≡ ids)
        → brought_then (brought_all stamp moment ids) stamp moment objects found ≡ Some all
        → map (λ b. b.id) all ≡ id ∷ ids
    by_one None one later is = absurd cc
    by_one (Some b) one later is =
        let next : List Object = all_acted stamp objects (acts_of_one moment b) in
        by_rest b (brought_id objects moment id b one) (brought_all stamp moment ids next) (later next) is

-- ---- their acts

abbrev pub IsOfRefresh : Act → Type 0
IsOfRefresh (RefreshesRows id moment e c) = Unit {0}
IsOfRefresh (PutsDynamic id state) = Unit {0}
IsOfRefresh _ = ⊥

pub refresh_moves_none : (act : Act) → IsOfRefresh act → MovesNone act
refresh_moves_none (RefreshesRows id moment e c) is = tt
refresh_moves_none (PutsDynamic id state) is = tt
refresh_moves_none (MakesTable name columns retention) is = absurd is
refresh_moves_none (DropsObject id) is = absurd is
refresh_moves_none (EditsRows id e) is = absurd is
refresh_moves_none (MakesStream name source is_append_only) is = absurd is
refresh_moves_none (MovesOffset id offset) is = absurd is
refresh_moves_none (MakesTask name minutes after runs) is = absurd is
refresh_moves_none (PutsTask id state) is = absurd is
refresh_moves_none (BeginsRun root tasks) is = absurd is
refresh_moves_none (EndsTask root task ending) is = absurd is
refresh_moves_none (MakesDynamic name lag is_incremental query columns) is = absurd is

one_is : (moment : ℕ) (b : Brought) → AllByRecursion IsOfRefresh (acts_of_one moment b)
one_is moment b = by_edits b.edits
  where
    by_edits : (edits : Option Edits)
        → AllByRecursion IsOfRefresh (version_acts b.id moment edits b.groups ++ PutsDynamic b.id b.state ∷ [])
    by_edits None = (tt, tt)
    by_edits (Some e) = (tt, (tt, tt))

all_are : (moment : ℕ) (all : List Brought) → AllByRecursion IsOfRefresh (flat_map (acts_of_one moment) all)
all_are moment [] = tt
all_are moment (b ∷ others) =
    all_append IsOfRefresh (acts_of_one moment b) (flat_map (acts_of_one moment) others) (one_is moment b)
    (all_are moment others)

brought_shape : (moment least : ℕ) (all : List Brought) → RiseFrom least (map (λ b. b.id) all)
    → AreEditsFrom least (flat_map (acts_of_one moment) all)
brought_shape moment least [] rise = no_more_edits
brought_shape moment least (b ∷ others) rise = by_edits b.edits (brought_shape moment (suc b.id) others rise.1)
  where
    by_edits : (edits : Option Edits) → AreEditsFrom (suc b.id) (flat_map (acts_of_one moment) others)
        → AreEditsFrom least ((version_acts b.id moment edits b.groups ++ PutsDynamic b.id b.state ∷ [])
        ++ flat_map (acts_of_one moment) others)
    by_edits None rest = other_act tt (from_less least (suc b.id) _ (omega (arith, rise.0)) rest)
    by_edits (Some e) rest = next_refresh rise.0 (other_act tt rest)

-- over tables that are no base tables
one_moves_on : (s : State) (moment : ℕ) (b : Brought) → base_at s.objects b.id ≡ None
    → AllMoveOn s (acts_of_one moment b)
one_moves_on s moment b none = by_edits b.edits
  where
    by_edits : (edits : Option Edits)
        → AllMoveOn s (version_acts b.id moment edits b.groups ++ PutsDynamic b.id b.state ∷ [])
    by_edits None = (tt, tt)
    by_edits (Some e) = (none, (tt, tt))

all_move_on : (s : State) (moment : ℕ) (all : List Brought)
    → AllByRecursion (λ id. base_at s.objects id ≡ None) (map (λ b. b.id) all)
    → AllMoveOn s (flat_map (acts_of_one moment) all)
all_move_on s moment [] none = tt
all_move_on s moment (b ∷ others) none =
    all_append (MovesOn s) (acts_of_one moment b) (flat_map (acts_of_one moment) others)
    (one_moves_on s moment b none.0) (all_move_on s moment others none.1)

-- a dynamic table is no base table
not_base : (objects : List Object) (id : ℕ) → IsWatched (dynamics_of objects) id → base_at objects id ≡ None
not_base objects id is = by_found (at_id objects id) (watched_kind objects id is)
  where
    by_kind : (k : Kind) → IsSomeAnd (dynamic_in k) (λ d. Unit {0}) → base_in k ≡ None
    by_kind (TableKind t) is = absurd is
    by_kind (StreamKind s) is = absurd is
    by_kind (TaskKind t) is = absurd is
    by_kind (DynamicKind d t) is = refl

    by_found : (found : Option Object) → IsSomeAnd (option_and_then as_dynamic found) (λ d. Unit {0})
        → option_and_then (λ o. base_in o.kind) found ≡ None
    by_found None is = refl
    by_found (Some o) is = by_kind o.kind is

-- ---- a refresh

-- of a commit over a state, or one with one object more
pub record IsRefresh (s : State) (acts : List Act) : Type 0 where
  pub shape : AreEditsFrom 0 acts
  pub are : AllByRecursion IsOfRefresh acts
  pub on : AllMoveOn s acts

abbrev pub AreOfRefresh : State → Refreshing → Type 0
AreOfRefresh s (Fails why) = Unit {0}
AreOfRefresh s (Brings lines acts) = IsRefresh s acts

pub refresh_acts : (s : State) (besides : Option Refusal) (id moment : ℕ)
    → AreOfRefresh s (refresh s besides id moment)
unfolding refresh
refresh_acts s besides id moment =
    by_refusal (first_of (first_lost s.objects (with_upstream s.objects id) ∷ besides ∷ []))
    (brought_all s.last moment (brought (dynamics_of s.objects) id moment) s.objects) refl
  where
    ids : List ℕ
    ids = brought (dynamics_of s.objects) id moment

    by_limit : (found : Option Refusal) (all : List Brought) → map (λ b. b.id) all ≡ ids
        → AreOfRefresh s (unless_past found (map (told_of s.objects moment) all) (flat_map (acts_of_one moment) all))
    by_limit (Some why) all is = tt
    by_limit None all is = record {
      shape = brought_shape moment 0 all
          (subst (RiseFrom 0) (sym is) (brought_rise (dynamics_of s.objects) id moment));
      are = all_are moment all;
      on = all_move_on s moment all (subst (AllByRecursion (λ id. base_at s.objects id ≡ None)) (sym is)
          (all_map (IsWatched (dynamics_of s.objects)) (λ id. base_at s.objects id ≡ None) (not_base s.objects) ids
          (brought_watched (dynamics_of s.objects) id moment)));
    }

    by_refusal : (found : Option Refusal) (all : Option (List Brought))
        → brought_all s.last moment ids s.objects ≡ all → AreOfRefresh s (refresh_by s.objects moment found all)
    by_refusal (Some why) all is = tt
    by_refusal None None is = tt
    by_refusal None (Some all) is = by_limit (number_refusal s.objects all) all
        (brought_ids s.last moment ids s.objects all is)

-- with one object less
base_less : (objects : List Object) (o : Object) (id : ℕ) → base_at (objects ++ o ∷ []) id ≡ None
    → base_at objects id ≡ None
base_less objects o zero none = refl
base_less objects o (suc place) none = of_place objects place none
  where
    base_of : Option Object → Option Table
    base_of found = option_and_then (λ o. base_in o.kind) found

    of_place : (os : List Object) (place : ℕ) → base_of (slice_get (os ++ o ∷ []) place) ≡ None
        → base_of (slice_get os place) ≡ None
    of_place [] place none = refl
    of_place (x ∷ os) zero none = none
    of_place (x ∷ os) (suc place) none = of_place os place none

refresh_before : (m : Machine) (n : NewDynamicTable) (query : DynamicQuery) (acts : List Act)
    → AllByRecursion IsOfRefresh acts → AllMoveOn (with_dynamic m.state n query) acts → AllMoveOn m.state acts
refresh_before m n query [] are on = tt
refresh_before m n query (RefreshesRows id moment e c ∷ acts) are on =
    (base_less m.state.objects _ id on.0, refresh_before m n query acts are.1 on.1)
refresh_before m n query (PutsDynamic id state ∷ acts) are on = (tt, refresh_before m n query acts are.1 on.1)
refresh_before m n query (MakesTable name columns retention ∷ acts) are on = absurd are.0
refresh_before m n query (DropsObject id ∷ acts) are on = absurd are.0
refresh_before m n query (EditsRows id e ∷ acts) are on = absurd are.0
refresh_before m n query (MakesStream name source is_append_only ∷ acts) are on = absurd are.0
refresh_before m n query (MovesOffset id offset ∷ acts) are on = absurd are.0
refresh_before m n query (MakesTask name minutes after runs ∷ acts) are on = absurd are.0
refresh_before m n query (PutsTask id state ∷ acts) are on = absurd are.0
refresh_before m n query (BeginsRun root tasks ∷ acts) are on = absurd are.0
refresh_before m n query (EndsTask root task ending ∷ acts) are on = absurd are.0
refresh_before m n query (MakesDynamic name lag is_incremental made columns ∷ acts) are on = absurd are.0

-- ---- outcomes

pub refreshes_lawful : (m : Machine) (reply : Reply) (acts : List Act) → is_refusal reply ≡ false
    → IsRefresh m.state acts → IsLawful m [] (commits m reply acts)
refreshes_lawful m reply acts accepted is =
    unmoved m reply acts accepted is.shape (all_map IsOfRefresh MovesNone refresh_moves_none acts is.are) is.on

pub created_dynamic : (m : Machine) (n : NewDynamicTable) (query : DynamicQuery) (start : Initialize)
    → IsLawful m [] (initialized m n query start)
created_dynamic m n query starts.OnSchedule =
    defined m (CreatedDynamicTable n.name []) (dynamic_made n query) refl (tt, tt)
created_dynamic m n query starts.OnCreate = by_refresh (asked_refresh (with_dynamic m.state n query) (new_id m.state))
    (refresh_acts (with_dynamic m.state n query) _ (new_id m.state) m.state.last)
  where
    by_refresh : (r : Refreshing) → AreOfRefresh (with_dynamic m.state n query) r
        → IsLawful m [] (made_with m n query r)
    by_refresh (Fails why) is = refuses m why
    by_refresh (Brings lines acts) is = unmoved m (CreatedDynamicTable n.name lines) (dynamic_made n query ++ acts) refl
        (other_act tt is.shape) (tt, all_map IsOfRefresh MovesNone refresh_moves_none acts is.are)
        (tt, refresh_before m n query acts is.are is.on)

pub refreshed_dynamic : (m : Machine) (r : Refreshing) → AreOfRefresh m.state r → IsLawful m [] (refreshed_by m r)
refreshed_dynamic m (Fails why) is = refuses m why
refreshed_dynamic m (Brings lines acts) is = refreshes_lawful m (RefreshedTables lines) acts refl is

pub altered_dynamic : (m : Machine) (reply : Reply) (id : ℕ) (new : DynamicState → DynamicState)
    → is_refusal reply ≡ false → IsLawful m [] (alters m reply id new)
altered_dynamic m reply id new accepted = by_found (dynamic_at m.state.objects id)
  where
    by_test : (d : Dynamic) (same : Bool)
        → IsLawful m [] (commits m reply (cond same [] (PutsDynamic id (new d.state) ∷ [])))
    by_test d true = defined m reply [] accepted tt
    by_test d false = defined m reply (PutsDynamic id (new d.state) ∷ []) accepted (tt, tt)

    by_found : (found : Option Dynamic) → IsLawful m [] (commits m reply (puts_dynamic id new found))
    by_found None = defined m reply [] accepted tt
    by_found (Some d) = by_test d (is_same_dynamic_state d.state (new d.state))

pub scheduled_dynamic : (m : Machine) (id target : ℕ) → IsLawful m [] (scheduled m id target)
unfolding scheduled
scheduled_dynamic m id target =
    by_refresh (refresh m.state None id target) (refresh_acts m.state None id target)
  where
    by_found : (why : Refusal) (found : Option Dynamic) → IsLawful m [] (failed_of m id target why found)
    by_found why None = refuses m why
    by_found why (Some d) = defined m
        (RefreshFailed (name_at m.state.objects id) target why (is_fifth d.state))
        (PutsDynamic id (behind_failure target d.state) ∷ []) refl (tt, tt)

    by_refresh : (r : Refreshing) → AreOfRefresh m.state r → IsLawful m [] (scheduled_by m id target r)
    by_refresh (Fails why) is = by_found why (dynamic_at m.state.objects id)
    by_refresh (Brings lines acts) is = refreshes_lawful m (RefreshedTables lines) acts refl is
