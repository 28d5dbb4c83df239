-- CREATE and ALTER DYNAMIC TABLE, and scheduled refreshes, keep a sound machine sound.
--     create_keeps                 a new dynamic table, refreshed or not
--     altered_keeps                one in another state, that stands for the same moment
--     asked_keeps, due_keeps       a refresh that is asked for, and one that is due
use Rattle.std.proofs.Common.{◌≡◌, ℕ, suc, ◌<◌, ◌≤◌, ◌⊎◌, inl, inr, Bool, true, false, cond, [], ◌∷◌, map}
use Rattle.std.proofs.Common.{length, Option, Some, None, IsTrue, refl, sym, subst, ◌∙◌, arith}
use Rattle.std.specs.Prelude.{not}
use Rattle.std.specs.Option.{IfSome, option_and_then}
use Rattle.wh_ast.specs.declared.statement.CreateDynamicTable.{CreateDynamicTable}
use Rattle.wh_ast.specs.declared.statement.RefreshMode.{RefreshMode}
use Rattle.wh_ast.specs.declared.statement.RefreshMode.TheVariants as modes
use Rattle.wh_ast.specs.declared.statement.Initialize.{Initialize}
use Rattle.wh_ast.specs.declared.statement.Initialize.TheVariants as starts
use Rattle.wh_naming.specs.Select.{BoundQuery, bound_query}
use Rattle.wh_algebra.specs.Increments.{incrementable}
use Rattle.wh_ddl_naming.specs.DynamicTables.{NewDynamicTable, inside, new_dynamic_table}
use Rattle.wh_reply.specs.Reply.{Refusal, Reply, NotIncrementable, CreatedDynamicTable, RefreshedTables}
use Rattle.wh_reply.specs.Reply.{RefreshFailed}
use Rattle.wh_state.proofs.PlaceLaws.{at_front, at_either}
use Rattle.wh_state.specs.State.{State, Object, DynamicKind, new_object, empty_table, at_id, table_in}
use Rattle.wh_state.specs.Dynamic.{DynamicState, Dynamic, new_dynamic}
use Rattle.wh_state.specs.Objects.{as_table, dynamic_at, table_at, name_at}
use Rattle.wh_state.specs.Bound.{kept_for}
use Rattle.wh_state.specs.Act.{PutsDynamic}
use Rattle.wh_state.proofs.SoundObjects.{IsKept, IsDynamicAt, found_dynamic, sound_at}
use Rattle.wh_state.proofs.SoundTables.{IsFresh}
use Rattle.wh_state.proofs.SoundLaws.{MayMake, MayPut, AreKeeping, no_act, make_act, put_act, acts_kept, kept_later}
use Rattle.wh_state.proofs.PlainActs.{fresh_at}
use Rattle.wh_state.specs.Edits.{is_among}
use Rattle.wh_moment.specs.Upstream.{dynamics_of, upstream}
use Rattle.wh_moment.specs.Moment.{behind_failure, due_table, moment_at}
use Rattle.wh_moment.proofs.DueLaws.{IsDueAt, due_is, due_some, due_within, due_greatest}
use Rattle.wh_machine.specs.Names.{names_from}
use Rattle.wh_machine.specs.Outcome.{Machine, commits}
use Rattle.wh_machine.specs.Refresh.{Refreshing, Fails, Brings, with_upstream, refresh}
use Rattle.wh_machine.specs.Dynamics.{seconds_of, is_incremental, mode_refusal, dynamic_made, with_dynamic, new_id}
use Rattle.wh_machine.specs.Dynamics.{dynamic_refusal}
use Rattle.wh_machine.specs.Dynamics.{first_suspended, asked_refresh, made_with, initialized, query_of, create_dynamic}
use Rattle.wh_machine.specs.Dynamics.{is_same_dynamic_state, puts_dynamic, alters, refreshed_by, is_fifth, failed_of}
use Rattle.wh_machine.specs.Dynamics.{scheduled_by, scheduled}
use Rattle.wh_machine.proofs.PassedLaws.{passed, none_if}
use Rattle.wh_machine.proofs.KeepingLaws.{IsReady, IsKeeping, refused, does, tested_by}
use Rattle.wh_machine.proofs.MadeQuery.{query_same, sources_there}
use Rattle.wh_machine.proofs.BroughtLaws.{IsFreshFrom}
use Rattle.wh_machine.proofs.RefreshKeeps.{moments_seen, RefreshKeeps, refresh_keeps}

-- ---- a machine that is ready

ready_kept : (m : Machine) → IsReady m → IsKept m.state.last m.state.objects
ready_kept m ready = kept_later m.state m.state.last (omega (arith, ready.later)) ready.sound

ready_fresh : (m : Machine) → IsReady m → IsFreshFrom m.state.last 0 m.state.objects
ready_fresh m ready id h = fresh_at m.state m.state.last ready.later ready.sound id

-- ---- CREATE DYNAMIC TABLE

-- one that is brought by changes has a query that allows it
mode_allows : (mode : RefreshMode) (can : Bool) → mode_refusal mode can ≡ None → IsTrue (is_incremental mode can)
    → IsTrue can
mode_allows modes.Auto can none is = is
mode_allows modes.Full can none is = absurd cc
mode_allows modes.Incremental can none is = allowed can (none_if (not can) NotIncrementable none)
  where
    allowed : (b : Bool) → not b ≡ false → IsTrue b
    allowed true is = refl
    allowed false is = absurd cc

module _ (m : Machine) (t : CreateDynamicTable) where
  abbrev made_of : NewDynamicTable
  made_of = new_dynamic_table t (bound_query t.query (map inside (names_from 1 m.state.objects)) 0)

  may_make : mode_refusal t.mode (incrementable made_of.query) ≡ None
      → MayMake m.state.objects (is_incremental t.mode (incrementable made_of.query)) (query_of made_of)
  may_make none = record {
    reads = sources_there m.state.objects t.query;
    mode = λ is. subst (λ (b : BoundQuery). IsTrue (incrementable b.query))
        (sym (query_same m.state.objects t.query t.query_text))
        (mode_allows t.mode (incrementable made_of.query) none is);
  }

  abbrev with_it : State
  with_it = with_dynamic m.state made_of (query_of made_of)

  abbrev its_object : Object
  its_object = new_object t.name (DynamicKind (new_dynamic (seconds_of t.lag)
      (is_incremental t.mode (incrementable made_of.query))
      (kept_for m.state.objects (is_incremental t.mode (incrementable made_of.query)) (query_of made_of))
      (query_of made_of)) (empty_table made_of.columns m.state.last))

  -- it has no version
  fresh_with : IsReady m → IsFreshFrom m.state.last 0 with_it.objects
  fresh_with ready id h = by_found (at_id with_it.objects id) refl
    where
      of_object : (o : Object) → at_id with_it.objects id ≡ Some o
          → (id ≤ length m.state.objects) ⊎ ((id ≡ suc (length m.state.objects)) × (its_object ≡ o))
          → IfSome (table_in o.kind) (IsFresh m.state.last)
      of_object o there (inl within) =
          subst (λ (found : Option Object). IfSome (option_and_then as_table found) (IsFresh m.state.last))
          (sym (at_front m.state.objects (its_object ∷ []) id within) ∙ there) (ready_fresh m ready id h)
      of_object o there (inr last) =
          subst (λ (p : Object). IfSome (table_in p.kind) (IsFresh m.state.last)) last.1 tt

      by_found : (found : Option Object) → at_id with_it.objects id ≡ found
          → IfSome (table_at with_it.objects id) (IsFresh m.state.last)
      by_found None none = subst (λ (found : Option Object).
          IfSome (option_and_then as_table found) (IsFresh m.state.last)) (sym none) tt
      by_found (Some o) there = subst (λ (found : Option Object).
          IfSome (option_and_then as_table found) (IsFresh m.state.last)) (sym there)
          (of_object o there (at_either m.state.objects its_object o id there))

  -- at the end of its tests
  made_keeps : IsReady m → mode_refusal t.mode (incrementable made_of.query) ≡ None → (start : Initialize)
      → IsKeeping m (initialized m made_of (query_of made_of) start)
  made_keeps ready none starts.OnSchedule =
      does m (CreatedDynamicTable t.name []) m.sessions _ (make_act (may_make none) no_act) ready.tables
  made_keeps ready none starts.OnCreate = by_refresh
      (asked_refresh with_it (new_id m.state))
      (refresh_keeps with_it
      (first_suspended with_it.objects (with_upstream with_it.objects (new_id m.state))) (new_id m.state) m.state.last
      (omega (arith, ready.later)) (omega arith)
      (λ x above. moments_seen m.state.last with_it.objects kept x) kept (fresh_with ready))
    where
      kept : IsKept m.state.last with_it.objects
      kept = acts_kept m.state.last m.state.objects (dynamic_made made_of (query_of made_of))
          (make_act (may_make none) no_act) (ready_kept m ready)

      by_refresh : (r : Refreshing) → RefreshKeeps with_it r → IsKeeping m (made_with m made_of (query_of made_of) r)
      by_refresh (Fails why) keeps = refused m why ready
      by_refresh (Brings lines acts) keeps =
          does m (CreatedDynamicTable t.name lines) m.sessions _ (make_act (may_make none) keeps) ready.tables

  pub create_keeps : (wrong : Option Refusal) → IsReady m → IsKeeping m (create_dynamic m wrong made_of)
  unfolding create_dynamic dynamic_refusal
  create_keeps wrong ready =
      tested_by m (dynamic_refusal m.state wrong made_of (query_of made_of)) _ ready (λ none.
      made_keeps ready (passed (mode_refusal t.mode (incrementable made_of.query)) _ (passed wrong _ none).1).0
      t.initialize)

-- ---- ALTER DYNAMIC TABLE

-- the moment stays, and what was tried is no later
abbrev pub IsModest : (DynamicState → DynamicState) → Type 0
IsModest new = (s : DynamicState) → ((new s).moment ≡ s.moment) × ((new s).tried ≤ s.tried)

pub altered_keeps : (m : Machine) (reply : Reply) (id : ℕ) (new : DynamicState → DynamicState) → IsModest new
    → IsReady m → IsKeeping m (alters m reply id new)
altered_keeps m reply id new modest ready = by_found (dynamic_at m.state.objects id) refl
  where
    puts : (d : Dynamic) → dynamic_at m.state.objects id ≡ Some d
        → AreKeeping m.state.last m.state.objects (PutsDynamic id (new d.state) ∷ [])
    puts d at =
        let place : IsDynamicAt m.state.objects id d = found_dynamic m.state.objects id d at in
        put_act (subst (λ (found : Option Dynamic).
        IfSome found (MayPut m.state.last m.state.objects (new d.state))) (sym at) (record {
          tried = omega (
            arith,
            (modest d.state).1,
            (sound_at m.state.last m.state.objects id d (ready_kept m ready) place).tried,
          );
          moment = inl (modest d.state).0;
        })) no_act

    by_test : (d : Dynamic) → dynamic_at m.state.objects id ≡ Some d → (same : Bool)
        → IsKeeping m (commits m reply (cond same [] (PutsDynamic id (new d.state) ∷ [])))
    by_test d at true = does m reply m.sessions _ no_act ready.tables
    by_test d at false = does m reply m.sessions _ (puts d at) ready.tables

    by_found : (found : Option Dynamic) → dynamic_at m.state.objects id ≡ found
        → IsKeeping m (commits m reply (puts_dynamic id new found))
    by_found None at = does m reply m.sessions _ no_act ready.tables
    by_found (Some d) at = by_test d at (is_same_dynamic_state d.state (new d.state))

-- ---- refreshes

pub asked_keeps : (m : Machine) (id : ℕ) → IsReady m → IsKeeping m (refreshed_by m (asked_refresh m.state id))
asked_keeps m id ready = by_refresh (asked_refresh m.state id)
    (refresh_keeps m.state (first_suspended m.state.objects (with_upstream m.state.objects id)) id m.state.last
    (omega (arith, ready.later)) (omega arith)
    (λ x above. moments_seen m.state.last m.state.objects (ready_kept m ready) x)
    (ready_kept m ready) (ready_fresh m ready))
  where
    by_refresh : (r : Refreshing) → RefreshKeeps m.state r → IsKeeping m (refreshed_by m r)
    by_refresh (Fails why) keeps = refused m why ready
    by_refresh (Brings lines acts) keeps = does m (RefreshedTables lines) m.sessions _ keeps ready.tables

-- one that fails is tried for a moment that isn't behind the stamp
failed_keeps : (m : Machine) (id target : ℕ) (why : Refusal) → target ≤ m.state.last → IsReady m
    → IsKeeping m (failed_of m id target why (dynamic_at m.state.objects id))
unfolding behind_failure
failed_keeps m id target why within ready = by_found (dynamic_at m.state.objects id) refl
  where
    by_found : (found : Option Dynamic) → dynamic_at m.state.objects id ≡ found
        → IsKeeping m (failed_of m id target why found)
    by_found None at = refused m why ready
    by_found (Some d) at =
        does m (RefreshFailed (name_at m.state.objects id) target why (is_fifth d.state)) m.sessions _
        (put_act (subst (λ (found : Option Dynamic).
        IfSome found (MayPut m.state.last m.state.objects (behind_failure target d.state))) (sym at)
        (record { tried = within; moment = inl refl })) no_act) ready.tables

scheduled_keeps : (m : Machine) (id target : ℕ) → 0 < target → target ≤ m.state.last
    → ((x : ℕ) → is_among x (upstream (dynamics_of m.state.objects) id) ≡ true
    → moment_at (dynamics_of m.state.objects) x ≤ target) → IsReady m
    → IsKeeping m (scheduled m id target)
unfolding scheduled
scheduled_keeps m id target some within most ready = by_refresh (refresh m.state None id target)
    (refresh_keeps m.state None id target some within most (ready_kept m ready) (ready_fresh m ready))
  where
    by_refresh : (r : Refreshing) → RefreshKeeps m.state r → IsKeeping m (scheduled_by m id target r)
    by_refresh (Fails why) keeps = failed_keeps m id target why within ready
    by_refresh (Brings lines acts) keeps = does m (RefreshedTables lines) m.sessions _ keeps ready.tables

pub due_keeps : (m : Machine) (due : ℕ × ℕ) → due_table (dynamics_of m.state.objects) m.state.last ≡ Some due
    → IsReady m → IsKeeping m (scheduled m due.0 due.1)
due_keeps m due is ready =
    let at : IsDueAt (dynamics_of m.state.objects) m.state.last due =
    due_is (dynamics_of m.state.objects) m.state.last due is in
    scheduled_keeps m due.0 due.1 (due_some (dynamics_of m.state.objects) m.state.last due at)
    (due_within (dynamics_of m.state.objects) m.state.last due at
    (moments_seen m.state.last m.state.objects (ready_kept m ready)))
    (λ x above. due_greatest (dynamics_of m.state.objects) m.state.last due at x above) ready
