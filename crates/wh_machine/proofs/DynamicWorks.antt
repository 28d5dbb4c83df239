-- ALTER DYNAMIC TABLE and scheduled refreshes apply.
--     standing_of                  over a machine that was reached, what stands of dynamic tables
--     works_suspend_dynamic, works_resume_dynamic, works_lag     other states
--     works_refresh_dynamic        a refresh that is asked for
--     works_refreshes              the refresh of a table that is due
use Rattle.std.proofs.Common.{◌≡◌, ℕ, ◌+◌, ◌≤◌, min, Bool, true, false, cond, List, [], ◌∷◌, map}
use Rattle.std.proofs.Common.{Option, Some, None, option_map, refl, sym, ap, subst, ◌∙◌, inl, inr, arith}
use Rattle.std.specs.Prelude.{◌&&◌, not, nat_lt}
use Rattle.std.specs.List.{AllByRecursion}
use Rattle.std.specs.Option.{IsSomeAnd, option_and_then, option_map_or}
use Rattle.std.proofs.lemmas.Bool.Decides.{nat_tests}
use Rattle.wh_value.specs.Limit.{bound}
use Rattle.wh_value.specs.declared.limit.Limit.TheVariants as limits
use Rattle.wh_ast.specs.declared.statement.Lag.{Lag}
use Rattle.wh_ast.specs.declared.statement.Lag.TheVariants as lags
use Rattle.wh_naming.specs.Scope.{DynamicTableObject}
use Rattle.wh_ddl_naming.specs.Meant.{Meant, first_failing}
use Rattle.wh_ddl_naming.specs.Objects.{is_same_kind, object_of}
use Rattle.wh_reply.specs.Reply.{Refusal, Reply, OverLimit, Refreshed, Suspended, Resumed, Altered, RefreshedTables}
use Rattle.wh_reply.specs.Reply.{RefreshFailed, Idle}
use Rattle.wh_state.specs.State.{TableKind, StreamKind, TaskKind, DynamicKind, Object, at_id, last_of}
use Rattle.wh_state.specs.Dynamic.{DynamicState, Dynamic, GroupsChange, most_failed_refreshes}
use Rattle.wh_state.specs.Objects.{as_dynamic, dynamic_at, is_live_at, name_at}
use Rattle.wh_state.specs.Act.{Act, MakesTable, DropsObject, EditsRows, MakesStream, MovesOffset, MakesTask, PutsTask}
use Rattle.wh_state.specs.Act.{BeginsRun, EndsTask, MakesDynamic, PutsDynamic, RefreshesRows}
use Rattle.wh_state.specs.Edits.{Edits}
use Rattle.wh_state.specs.Stored.{StoredTable, StoredVersion, StoredKind, StoredObject, Stored, kind_meant}
use Rattle.wh_state.specs.Stored.{object_meant}
use Rattle.wh_state.specs.Stored.{version_meant, table_meant}
use Rattle.wh_state.specs.Commit.{IsLag, TakesState, DoesNotFall, all_changed}
use Rattle.wh_state.specs.Written.{version_written_to, groups_written, act_written, written}
use Rattle.wh_state.specs.Sound.{IsTimelyFor, IsSoundObject, IsSoundKind}
use Rattle.wh_state.proofs.AllLaws.{all_append, all_at}
use Rattle.wh_state.proofs.FoundLaws.{found_some}
use Rattle.wh_state.proofs.MeaningLaws.{at_id_meant}
use Rattle.wh_state.proofs.BelowLaws.{rows_below}
use Rattle.wh_state.proofs.DynamicFirm.{DynamicHolds, IsFirmDynamic}
use Rattle.wh_state.proofs.WrittenLaws.{AllGo, ChangeSpares, go_none}
use Rattle.wh_state.proofs.BroughtGoes.{StateStands}
use Rattle.wh_moment.specs.Upstream.{Watched, Dynamics, dynamics_of, watched_at, watched_object, upstream}
use Rattle.wh_moment.specs.Moment.{is_waiting_for, is_due, target, sooner, due_among, ids_from, due_table}
use Rattle.wh_moment.specs.Moment.{behind_failure, has_come, grid}
use Rattle.wh_machine.specs.Tests.{refused_if, refused_past, first_of}
use Rattle.wh_machine.specs.Names.{object_kind, names_in, refusal_of}
use Rattle.wh_machine.specs.Outcome.{Machine, commits}
use Rattle.wh_machine.specs.Definitions.{defines}
use Rattle.wh_machine.specs.Refresh.{Refreshing, Fails, Brings, refresh}
use Rattle.wh_machine.specs.Dynamics.{seconds_of, lag_refusals, below_refusal, above_refusal, lag_refusal}
use Rattle.wh_machine.specs.Dynamics.{first_suspended, asked_refresh, is_same_dynamic_state, puts_dynamic, alters}
use Rattle.wh_machine.specs.Dynamics.{suspend_dynamic, resume_dynamic, set_lag, refreshed_by, refresh_dynamic, is_fifth}
use Rattle.wh_machine.specs.Dynamics.{failed_of, scheduled_by, scheduled}
use Rattle.wh_machine.specs.Refresh.{with_upstream}
use Rattle.wh_machine.specs.Ticks.{refreshes}
use Rattle.wh_machine.proofs.WorksLaws.{IsReached, objects_meant, Works, works_refuses, works_unless, works_does}
use Rattle.wh_machine.proofs.WorksLaws.{works_made}
use Rattle.wh_machine.proofs.ValueTypes.{both_true}
use Rattle.wh_machine.proofs.PassedLaws.{passed, none_if, within, nothing_wrong}
use Rattle.wh_machine.proofs.DefineLaws.{IsPlaced, placed, works_defines}
use Rattle.wh_machine.proofs.RefreshLaws.{IsOfRefresh, AreOfRefresh, refresh_acts}
use Rattle.wh_machine.proofs.GroupsBrought.{sound_groups}
use Rattle.wh_machine.proofs.RefreshGoes.{KindStands, AreStanding, watched_found, refresh_goes}

-- ---- what stands

-- no version stands for a later moment
last_falls : (committed moment : ℕ) (versions : List StoredVersion)
    → AllByRecursion (IsTimelyFor committed moment) (map version_meant versions) → DoesNotFall (last_of versions) moment
last_falls committed moment [] timely = tt
last_falls committed moment (v ∷ []) timely = timely.0.data_timestamp
last_falls committed moment (v ∷ w ∷ vs) timely = last_falls committed moment (w ∷ vs) timely.1

pub standing_of : (s : Stored) (m : Machine) → IsReached s m → AreStanding s.objects
standing_of s m reached =
    all_standing s.objects (subst (AllByRecursion (IsSoundObject m.state.committed m.state.objects))
    (objects_meant s m reached) reached.sound.state.objects)
  where
    by_kind : (k : StoredKind) → IsSoundKind m.state.committed m.state.objects (kind_meant k) → KindStands k
    by_kind (TableKind t) sound = tt
    by_kind (StreamKind stream) sound = tt
    by_kind (TaskKind t) sound = tt
    by_kind (DynamicKind d t) sound = (
      rows_below t sound.below,
      (
        last_falls m.state.committed d.state.moment t.versions sound.timely,
        sound_groups m.state.committed m.state.objects d (table_meant t) sound,
      ),
    )

    all_standing : (os : List StoredObject)
        → AllByRecursion (IsSoundObject m.state.committed m.state.objects) (map object_meant os) → AreStanding os
    all_standing [] sound = tt
    all_standing (o ∷ os) sound = (by_kind o.kind sound.0, all_standing os sound.1)

-- ---- lags

pub lag_is : (lag : Lag) → first_of (lag_refusals lag) ≡ None → IsLag (seconds_of lag)
lag_is lags.Downstream none = inl refl
lag_is (lags.Seconds n) none =
    let least = passed (refused_if (nat_lt n (bound limits.LeastTargetLag)) (OverLimit limits.LeastTargetLag)) _ none in
    let most = passed (refused_past limits.MostTargetLag n) _ least.1 in
    inr (
      not_less n (bound limits.LeastTargetLag) (none_if (nat_lt n (bound limits.LeastTargetLag))
          (OverLimit limits.LeastTargetLag) least.0),
      within limits.MostTargetLag n most.0,
    )
  where
    not_less : (a b : ℕ) → nat_lt a b ≡ false → b ≤ a
    not_less a b test = grind (arith, nat_tests)

-- ---- acts of refreshes

-- they drop nothing
pub refresh_spares : (id stamp : ℕ) (objects : List StoredObject) (acts : List Act) → AllByRecursion IsOfRefresh acts
    → AllByRecursion (ChangeSpares id) (written stamp objects acts)
refresh_spares id stamp objects [] are = tt
refresh_spares id stamp objects (act ∷ acts) are =
    let first = act_written stamp objects act in
    all_append (ChangeSpares id) first (written stamp (all_changed stamp objects first) acts)
    (act_spares act are.0) (refresh_spares id stamp (all_changed stamp objects first) acts are.1)
  where
    by_kind : (moment other : ℕ) (e : Edits) (o : StoredObject) (k : StoredKind)
        → AllByRecursion (ChangeSpares id) (version_written_to moment other e (Some (record o { kind = k })))
    by_kind moment other e o (TableKind t) = (tt, tt)
    by_kind moment other e o (StreamKind s) = tt
    by_kind moment other e o (TaskKind t) = tt
    by_kind moment other e o (DynamicKind d t) = (tt, tt)

    by_found : (moment other : ℕ) (e : Edits) (found : Option StoredObject)
        → AllByRecursion (ChangeSpares id) (version_written_to moment other e found)
    by_found moment other e None = tt
    by_found moment other e (Some o) = by_kind moment other e o o.kind

    groups_spare : (other : ℕ) (c : Option GroupsChange) → AllByRecursion (ChangeSpares id) (groups_written other c)
    groups_spare other None = tt
    groups_spare other (Some c) = (tt, tt)

    act_spares : (act : Act) → IsOfRefresh act → AllByRecursion (ChangeSpares id) (act_written stamp objects act)
    act_spares (RefreshesRows other moment e c) is =
        all_append (ChangeSpares id) (version_written_to moment other e (at_id objects other)) (groups_written other c)
        (by_found moment other e (at_id objects other)) (groups_spare other c)
    act_spares (PutsDynamic other state) is = (tt, tt)
    act_spares (MakesTable name columns retention) is = absurd is
    act_spares (DropsObject other) is = absurd is
    act_spares (EditsRows other e) is = absurd is
    act_spares (MakesStream name source is_append_only) is = absurd is
    act_spares (MovesOffset other offset) is = absurd is
    act_spares (MakesTask name minutes after runs) is = absurd is
    act_spares (PutsTask other state) is = absurd is
    act_spares (BeginsRun root tasks) is = absurd is
    act_spares (EndsTask root task ending) is = absurd is
    act_spares (MakesDynamic name lag is_incremental query columns) is = absurd is

-- ---- tables that are due

abbrev pub IsWaiting : Dynamics → ℕ → ℕ → Type 0
IsWaiting all stamp id = IsSomeAnd (watched_at all id) (λ w. w.is_live ≡ true)

first_true : (a b c d : Bool) → (a && b && c && d) ≡ true → a ≡ true
first_true true b c d is = refl
first_true false b c d is = absurd cc

one_waits : (all : Dynamics) (stamp id : ℕ) → is_due all stamp id ≡ true → IsWaiting all stamp id
unfolding is_due
one_waits all stamp id due =
    by_found (watched_at all id) (both_true (option_map_or (is_waiting_for stamp) (watched_at all id) false) _ due).0
  where
    by_found : (found : Option Watched) → option_map_or (is_waiting_for stamp) found false ≡ true
        → IsSomeAnd found (λ w. w.is_live ≡ true)
    by_found None is = absurd cc
    by_found (Some w) is =
        first_true w.is_live (not w.state.is_suspended) (nat_lt 0 w.state.lag) (has_come (grid w.state.lag stamp) w) is

-- the one that is found first of two waits as they do
abbrev FoundWaits : Dynamics → ℕ → Option (ℕ × ℕ) → Type 0
FoundWaits all stamp found = (due : ℕ × ℕ) → found ≡ Some due → IsWaiting all stamp due.0

sooner_waits : (all : Dynamics) (stamp : ℕ) (found : Option (ℕ × ℕ)) (next : ℕ × ℕ) → FoundWaits all stamp found
    → IsWaiting all stamp next.0 → IsWaiting all stamp (sooner found next).0
sooner_waits all stamp None next h waits = waits
sooner_waits all stamp (Some found) next h waits = by_test (nat_lt next.1 found.1)
  where
    by_test : (b : Bool) → IsWaiting all stamp (cond b next found).0
    by_test true = waits
    by_test false = h found refl

among_waits : (all : Dynamics) (stamp : ℕ) (found : Option (ℕ × ℕ)) (ids : List ℕ) → FoundWaits all stamp found
    → FoundWaits all stamp (due_among all stamp found ids)
among_waits all stamp found [] h = h
among_waits all stamp found (id ∷ ids) h =
    among_waits all stamp (cond (is_due all stamp id) (Some (sooner found (id, target all stamp id))) found) ids
    (by_test (is_due all stamp id) refl)
  where
    by_test : (b : Bool) → is_due all stamp id ≡ b
        → FoundWaits all stamp (cond b (Some (sooner found (id, target all stamp id))) found)
    by_test false is due same = h due same
    by_test true is due same =
        let here : sooner found (id, target all stamp id) ≡ due = cc in
        subst (λ (d : ℕ × ℕ). IsWaiting all stamp d.0) here
        (sooner_waits all stamp found (id, target all stamp id) h (one_waits all stamp id is))

due_waits : (all : Dynamics) (stamp : ℕ) (due : ℕ × ℕ) → due_table all stamp ≡ Some due → IsWaiting all stamp due.0
unfolding due_table
due_waits all stamp due is = among_waits all stamp None (ids_from 1 all) (λ due none. absurd cc) due is

-- a live dynamic table
pub record IsDynamicAt (objects : List StoredObject) (id : ℕ) : Type 0 where
  pub object : StoredObject
  pub dynamic : Dynamic
  pub table : StoredTable
  pub there : at_id objects id ≡ Some (record object { kind = DynamicKind dynamic table })
  pub live : object.is_live ≡ true

dynamic_placed : (objects : List StoredObject) (id : ℕ) → IsPlaced objects DynamicTableObject id
    → IsDynamicAt objects id
dynamic_placed objects id is = by_kind is.object is.object.kind is.there is.live is.kind_is
  where
    by_kind : (o : StoredObject) (k : StoredKind) → at_id objects id ≡ Some (record o { kind = k }) → o.is_live ≡ true
        → is_same_kind (object_kind (kind_meant k)) DynamicTableObject ≡ true → IsDynamicAt objects id
    by_kind o (TableKind t) there live kind = absurd cc
    by_kind o (StreamKind s) there live kind = absurd cc
    by_kind o (TaskKind t) there live kind = absurd cc
    by_kind o (DynamicKind d t) there live kind =
        record { object = o; dynamic = d; table = t; there = there; live = live }

module _ (s : Stored) (m : Machine) (reached : IsReached s m) where
  at_now : (id : ℕ) → at_id m.state.objects id ≡ option_map object_meant (at_id s.objects id)
  at_now id = ap (λ (objects : List Object). at_id objects id) (objects_meant s m reached) ∙ at_id_meant s.objects id

  dynamic_now : (id : ℕ) (is : IsDynamicAt s.objects id) → dynamic_at m.state.objects id ≡ Some is.dynamic
  dynamic_now id is =
      ap (option_and_then as_dynamic) (at_now id ∙ ap (option_map object_meant) is.there)

  live_now : (id : ℕ) → IsDynamicAt s.objects id → is_live_at (map object_meant s.objects) id ≡ true
  live_now id is =
      ap (λ (found : Option Object). option_map_or (λ o. o.is_live) found false)
      (at_id_meant s.objects id ∙ ap (option_map object_meant) is.there) ∙ is.live

  firm_now : (id : ℕ) (is : IsDynamicAt s.objects id) → IsFirmDynamic s.objects is.dynamic is.table.columns
  firm_now id is = all_at (λ o. DynamicHolds s.objects o.kind) s.objects id _ reached.firm.dynamics is.there

  -- ---- other states

  abbrev Takes : (DynamicState → DynamicState) → Type 0
  Takes new = (d : Dynamic) → IsLag d.state.lag → d.state.failures ≤ most_failed_refreshes → TakesState d (new d.state)

  state_goes : (id : ℕ) (new : DynamicState → DynamicState) → Takes new → (is : IsDynamicAt s.objects id)
      → AllGo m.state.last s.objects (written m.state.last s.objects (PutsDynamic id (new is.dynamic.state) ∷ []))
  state_goes id new takes is =
      let firm : IsFirmDynamic s.objects is.dynamic is.table.columns = firm_now id is in
      let stands = found_some (StateStands (new is.dynamic.state)) s.objects id _ is.there
      (is.live, takes is.dynamic firm.lag firm.few) in
      record { applies = (stands, tt); rises = (tt, tt); follows = (refl, refl) }

  works_alters : (reply : Reply) (id : ℕ) (new : DynamicState → DynamicState) → Takes new → IsDynamicAt s.objects id
      → Works s m (alters m reply id new)
  works_alters reply id new takes is =
      subst (λ (found : Option Dynamic). Works s m (commits m reply (puts_dynamic id new found)))
      (sym (dynamic_now id is)) (by_same (is_same_dynamic_state is.dynamic.state (new is.dynamic.state)))
    where
      by_same : (same : Bool)
          → Works s m (commits m reply (cond same [] (PutsDynamic id (new is.dynamic.state) ∷ [])))
      by_same true = works_made s m reply [] reached (λ other. tt) (go_none m.state.last s.objects)
      by_same false = works_made s m reply (PutsDynamic id (new is.dynamic.state) ∷ []) reached (λ other. (tt, tt))
          (state_goes id new takes is)

  abbrev named_table : List ℕ → Meant ℕ
  named_table name = object_of DynamicTableObject (names_in m.state.objects) name

  abbrev wrong_in : List ℕ → Option Refusal
  wrong_in name = option_map refusal_of (first_failing (named_table name))

  named_dynamic : (name : List ℕ) → wrong_in name ≡ None → IsDynamicAt s.objects (named_table name).value
  named_dynamic name none = dynamic_placed s.objects (named_table name).value
      (placed s m DynamicTableObject name reached (nothing_wrong (named_table name) none).1)

  pub works_suspend_dynamic : (session : ℕ) (name : List ℕ)
      → Works s m (defines m session None (suspend_dynamic m (wrong_in name) (named_table name).value))
  unfolding suspend_dynamic
  works_suspend_dynamic session name =
      works_defines s m session None _ reached (λ free.
      works_unless s m (wrong_in name) _ reached (λ none.
      works_alters (Suspended (name_at m.state.objects (named_table name).value)) (named_table name).value
      (λ s. record s { is_suspended = true })
      (λ d lag few. record { lag = lag; failures = few; moment = omega arith }) (named_dynamic name none)))

  pub works_resume_dynamic : (session : ℕ) (name : List ℕ)
      → Works s m (defines m session None (resume_dynamic m (wrong_in name) (named_table name).value))
  unfolding resume_dynamic
  works_resume_dynamic session name =
      works_defines s m session None _ reached (λ free.
      works_unless s m (wrong_in name) _ reached (λ none.
      works_alters (Resumed (name_at m.state.objects (named_table name).value)) (named_table name).value
      (λ s. record s { is_suspended = false; failures = 0; tried = 0 })
      (λ d lag few. record { lag = lag; failures = omega arith; moment = omega arith }) (named_dynamic name none)))

  pub works_lag : (session : ℕ) (name : List ℕ) (lag : Lag)
      → Works s m (defines m session None (set_lag m (wrong_in name) (named_table name).value lag))
  unfolding set_lag lag_refusal
  works_lag session name lag =
      works_defines s m session None _ reached (λ free.
      works_unless s m (lag_refusal m.state (wrong_in name) (named_table name).value lag) _ reached (λ none.
      let names = passed (wrong_in name) _ none in
      let below = passed (below_refusal m.state.objects (name_at m.state.objects (named_table name).value) lag
      (upstream (dynamics_of m.state.objects) (named_table name).value)) _ names.1 in
      let over = passed (above_refusal m.state.objects (named_table name).value lag) _ below.1 in
      works_alters (Altered (name_at m.state.objects (named_table name).value)) (named_table name).value
      (λ s. record s { lag = seconds_of lag })
      (λ d old few. record { lag = lag_is lag over.1; failures = few; moment = omega arith })
      (named_dynamic name names.0)))

  -- ---- refreshes

  works_brings : (reply : Reply) (lines : List Refreshed) (acts : List Act) (besides : Option Refusal) (id moment : ℕ)
      → is_live_at (map object_meant s.objects) id ≡ true → refresh m.state besides id moment ≡ Brings lines acts
      → Works s m (commits m reply acts)
  works_brings reply lines acts besides id moment live is =
      works_made s m reply acts reached
      (λ other. refresh_spares other m.state.last s.objects acts
      (subst (AreOfRefresh m.state) is (refresh_acts m.state besides id moment)).are)
      (refresh_goes s.objects m.state (objects_meant s m reached) reached.firm
      (standing_of s m reached) besides id moment
      live lines acts is)

  pub works_refresh_dynamic : (session : ℕ) (name : List ℕ)
      → Works s m (defines m session None (refresh_dynamic m (wrong_in name) (named_table name).value))
  unfolding refresh_dynamic
  works_refresh_dynamic session name =
      works_defines s m session None _ reached (λ free.
      works_unless s m (wrong_in name) _ reached (λ none.
      by_refresh (named_dynamic name none) (asked_refresh m.state (named_table name).value) refl))
    where
      by_refresh : IsDynamicAt s.objects (named_table name).value → (r : Refreshing)
          → asked_refresh m.state (named_table name).value ≡ r → Works s m (refreshed_by m r)
      by_refresh is (Fails why) r_is = works_refuses s m why reached
      by_refresh is (Brings lines acts) r_is =
          works_brings (RefreshedTables lines) lines acts
          (first_suspended m.state.objects (with_upstream m.state.objects (named_table name).value))
          (named_table name).value m.state.last (live_now (named_table name).value is) r_is

  works_scheduled : (id moment : ℕ) → IsDynamicAt s.objects id → Works s m (scheduled m id moment)
  unfolding scheduled behind_failure
  works_scheduled id moment is = by_refresh (refresh m.state None id moment) refl
    where
      few : (n : ℕ) → min most_failed_refreshes n ≤ most_failed_refreshes
      few n = omega arith

      fails : (why : Refusal) → Works s m (failed_of m id moment why (Some is.dynamic))
      fails why = works_made s m
          (RefreshFailed (name_at m.state.objects id) moment why (is_fifth is.dynamic.state))
          (PutsDynamic id (behind_failure moment is.dynamic.state) ∷ []) reached (λ other. (tt, tt))
          (state_goes id (behind_failure moment)
          (λ d lag old. record { lag = lag; failures = few (d.state.failures + 1); moment = omega arith }) is)

      by_refresh : (r : Refreshing) → refresh m.state None id moment ≡ r → Works s m (scheduled_by m id moment r)
      by_refresh (Fails why) r_is =
          subst (λ (found : Option Dynamic). Works s m (failed_of m id moment why found)) (sym (dynamic_now id is))
          (fails why)
      by_refresh (Brings lines acts) r_is =
          works_brings (RefreshedTables lines) lines acts None id moment (live_now id is) r_is

  -- one that is due is a live dynamic table
  due_there : (id : ℕ) → IsWaiting (dynamics_of m.state.objects) m.state.last id → IsDynamicAt s.objects id
  due_there id waits =
      by_found (at_id s.objects id) refl (subst (λ (found : Option Watched). IsSomeAnd found (λ w. w.is_live ≡ true))
      (watched_now id) waits)
    where
      by_kind : (o : StoredObject) (k : StoredKind) → at_id s.objects id ≡ Some (record o { kind = k })
          → IsSomeAnd (watched_object (object_meant (record o { kind = k }))) (λ w. w.is_live ≡ true)
          → IsDynamicAt s.objects id
      by_kind o (TableKind t) there waits = absurd waits
      by_kind o (StreamKind stream) there waits = absurd waits
      by_kind o (TaskKind t) there waits = absurd waits
      by_kind o (DynamicKind d t) there waits =
          record { object = o; dynamic = d; table = t; there = there; live = waits }

      by_found : (found : Option StoredObject) → at_id s.objects id ≡ found
          → IsSomeAnd (option_and_then (λ o. watched_object (object_meant o)) found) (λ w. w.is_live ≡ true)
          → IsDynamicAt s.objects id
      by_found None there waits = absurd waits
      by_found (Some o) there waits = by_kind o o.kind there waits

      watched_now : (id : ℕ) → watched_at (dynamics_of m.state.objects) id
          ≡ option_and_then (λ o. watched_object (object_meant o)) (at_id s.objects id)
      watched_now id =
          ap (λ (objects : List Object). watched_at (dynamics_of objects) id) (objects_meant s m reached)
          ∙ watched_found s.objects id

  pub works_refreshes : (found : Option (ℕ × ℕ)) → due_table (dynamics_of m.state.objects) m.state.last ≡ found
      → Works s m (refreshes m found)
  works_refreshes None is = works_does s m Idle m.sessions reached.stand
  works_refreshes (Some due) is =
      works_scheduled due.0 due.1
      (due_there due.0 (due_waits (dynamics_of m.state.objects) m.state.last due is))
