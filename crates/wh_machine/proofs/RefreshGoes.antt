-- What is written for a refresh applies.
--     AreStanding         the row numbers of dynamic tables, the moments of their last versions, and their groups
--     all_live            where no source is lost, all that is upstream of a live table lives
--     refresh_goes        a refresh that brings some
use Rattle.std.proofs.Common.{◌≡◌, ℕ, ◌≤◌, Bool, true, false, cond, List, [], ◌∷◌, ◌++◌, map, Option, Some, None}
use Rattle.std.proofs.Common.{option_map}
use Rattle.std.proofs.Common.{refl, sym, ap, subst, ◌∙◌, arith}
use Rattle.std.specs.Prelude.{not, ◌||◌, nat_eq, nat_lt, unwrap_or}
use Rattle.std.specs.List.{AllByRecursion, filter, list_any, flat_map}
use Rattle.std.specs.Option.{IfSome, IsSomeAnd, option_and_then, option_map_or}
use Rattle.std.proofs.lemmas.Bool.Decides.{nat_tests}
use Rattle.wh_value.specs.declared.limit.Limit.TheVariants as limits
use Rattle.wh_ddl_naming.proofs.QueryLaws.{all_in_front, all_behind}
use Rattle.wh_reply.specs.Reply.{Refusal, Refreshed, OverLimit, SourceGone}
use Rattle.wh_state.specs.State.{State, TableKind, StreamKind, TaskKind, DynamicKind, Object, VersionOf, at_id, last_of}
use Rattle.wh_state.specs.State.{dynamic_in}
use Rattle.wh_frame.specs.Partition.{Partition}
use Rattle.wh_state.specs.Dynamic.{DynamicState, Dynamic, ids_read}
use Rattle.wh_state.specs.Objects.{as_dynamic, dynamic_at, is_live_at, name_at}
use Rattle.wh_state.specs.Act.{Act}
use Rattle.wh_state.specs.Stored.{StoredKind, StoredObject, object_meant}
use Rattle.wh_state.specs.Commit.{DoesNotFall}
use Rattle.wh_state.specs.Written.{written}
use Rattle.wh_state.proofs.AllLaws.{all_map, all_both, all_append, all_filter, all_at}
use Rattle.wh_state.proofs.IdLaws.{map_at}
use Rattle.wh_state.proofs.FoundLaws.{FoundAt}
use Rattle.wh_state.proofs.MeaningLaws.{at_id_meant}
use Rattle.wh_state.proofs.AppliesLaws.{IsBelowNext}
use Rattle.wh_state.proofs.FirmLaws.{IsFirm}
use Rattle.wh_state.proofs.WrittenLaws.{AllGo}
use Rattle.wh_state.proofs.BroughtGoes.{KindRefreshable}
use Rattle.wh_moment.specs.Upstream.{Watched, watched_object, dynamics_of, watched_at, upstream, is_below}
use Rattle.wh_moment.specs.Upstream.{stands_below, brought}
use Rattle.wh_moment.proofs.UpstreamLaws.{brought_rise}
use Rattle.wh_moment.proofs.DirectLaws.{sources_at, upstream_all}
use Rattle.wh_machine.specs.Tests.{first_of}
use Rattle.wh_machine.specs.Refresh.{Brought, acts_of_one, brought_all, is_row_past, is_partition_past, number_refusal}
use Rattle.wh_machine.specs.Refresh.{lost_source, first_lost, told_of, Refreshing, Brings, unless_past, refresh_by}
use Rattle.wh_machine.specs.Refresh.{with_upstream, refresh}
use Rattle.wh_machine.proofs.PassedLaws.{passed}
use Rattle.wh_machine.proofs.GroupsBrought.{HasItsGroups}
use Rattle.wh_machine.proofs.BroughtWorks.{IsWithinNumbers, MayBring, all_go}

-- ---- tests of lists

none_any : {X : Type 0} (test : X → Bool) (xs : List X) → list_any test xs ≡ false
    → AllByRecursion (λ x. test x ≡ false) xs
none_any test [] none = tt
none_any test (x ∷ xs) none = by_test (test x) refl none (none_any test xs)
  where
    by_test : (b : Bool) → test x ≡ b → (b || list_any test xs) ≡ false
        → (list_any test xs ≡ false → AllByRecursion (λ x. test x ≡ false) xs)
        → AllByRecursion (λ x. test x ≡ false) (x ∷ xs)
    by_test true is none rest = absurd cc
    by_test false is none rest = (is, rest none)

filtered_pass : {X : Type 0} (test : X → Bool) (xs : List X) → AllByRecursion (λ x. test x ≡ true) (filter test xs)
filtered_pass test [] = tt
filtered_pass test (x ∷ xs) = by_test (test x) refl (filtered_pass test xs)
  where
    by_test : (b : Bool) → test x ≡ b → AllByRecursion (λ x. test x ≡ true) (filter test xs)
        → AllByRecursion (λ x. test x ≡ true) (cond b (x ∷ filter test xs) (filter test xs))
    by_test true is rest = (is, rest)
    by_test false is rest = rest

not_true : (b : Bool) → not b ≡ false → b ≡ true
not_true true is = refl
not_true false is = absurd cc

-- ---- what stands of dynamic tables

abbrev pub KindStands : StoredKind → Type 0
KindStands (TableKind t) = Unit {0}
KindStands (StreamKind s) = Unit {0}
KindStands (TaskKind t) = Unit {0}
KindStands (DynamicKind d t) = IsBelowNext t × (DoesNotFall (last_of t.versions) d.state.moment × HasItsGroups d)

abbrev pub AreStanding : List StoredObject → Type 0
AreStanding objects = AllByRecursion (λ o. KindStands o.kind) objects

falls_later : (last : Option (VersionOf (List Partition))) (moment later : ℕ) → moment ≤ later
    → DoesNotFall last moment → DoesNotFall last later
falls_later None moment later h falls = tt
falls_later (Some v) moment later h falls = omega (arith, falls)

below_is : (moment : ℕ) (s : DynamicState) → is_below moment s ≡ true → s.moment ≤ moment
below_is moment s is = by_test (nat_eq s.moment 0) refl is
  where
    by_test : (b : Bool) → nat_eq s.moment 0 ≡ b → (b || nat_lt s.moment moment) ≡ true → s.moment ≤ moment
    by_test true test is = grind (arith, nat_tests)
    by_test false test is = grind (arith, nat_tests)

-- ---- the schedule of what a file says

module _ (objects : List StoredObject) where
  abbrev pub meant : List Object
  meant = map object_meant objects

  pub watched_found : (id : ℕ)
      → watched_at (dynamics_of meant) id ≡ option_and_then (λ o. watched_object (object_meant o)) (at_id objects id)
  watched_found id =
      ap (λ (found : Option (Option Watched)). unwrap_or found None)
      (map_at watched_object meant id ∙ ap (option_map watched_object) (at_id_meant objects id))
      ∙ by_found (at_id objects id)
    where
      by_found : (found : Option StoredObject)
          → unwrap_or (option_map watched_object (option_map object_meant found)) None
          ≡ option_and_then (λ o. watched_object (object_meant o)) found
      by_found None = refl
      by_found (Some o) = refl

  live_found : (id : ℕ) → is_live_at meant id ≡ option_map_or (λ o. o.is_live) (at_id objects id) false
  live_found id =
      ap (λ (found : Option Object). option_map_or (λ o. o.is_live) found false) (at_id_meant objects id)
      ∙ by_found (at_id objects id)
    where
      by_found : (found : Option StoredObject) → option_map_or (λ o. o.is_live) (option_map object_meant found) false
          ≡ option_map_or (λ o. o.is_live) found false
      by_found None = refl
      by_found (Some o) = refl

  dynamic_found : (id : ℕ)
      → dynamic_at meant id ≡ option_and_then (λ o. as_dynamic (object_meant o)) (at_id objects id)
  dynamic_found id = ap (option_and_then as_dynamic) (at_id_meant objects id) ∙ by_found (at_id objects id)
    where
      by_found : (found : Option StoredObject) → option_and_then as_dynamic (option_map object_meant found)
          ≡ option_and_then (λ o. as_dynamic (object_meant o)) found
      by_found None = refl
      by_found (Some o) = refl

  -- ---- sources that live

  abbrev Lives : ℕ → Type 0
  Lives id = is_live_at meant id ≡ true

  none_lost : (ids : List ℕ) → first_lost meant ids ≡ None → AllByRecursion (λ id. lost_source meant id ≡ false) ids
  none_lost [] none = tt
  none_lost (id ∷ ids) none = by_test (lost_source meant id) refl none (none_lost ids)
    where
      by_test : (b : Bool) → lost_source meant id ≡ b
          → cond b (Some (SourceGone (name_at meant id))) (first_lost meant ids) ≡ None
          → (first_lost meant ids ≡ None → AllByRecursion (λ id. lost_source meant id ≡ false) ids)
          → AllByRecursion (λ id. lost_source meant id ≡ false) (id ∷ ids)
      by_test true is none rest = absurd cc
      by_test false is none rest = (is, rest none)

  reads_live : (id : ℕ) → lost_source meant id ≡ false → AllByRecursion Lives (sources_at (dynamics_of meant) id)
  reads_live id kept =
      subst (λ (found : Option Watched). AllByRecursion Lives (option_map_or (λ w. w.sources) found []))
      (sym (watched_found id)) (by_found (at_id objects id)
      (sym (ap (λ (found : Option Dynamic). option_map_or
      (λ d. list_any (λ source. not (is_live_at meant source)) (ids_read d.query)) found false) (dynamic_found id))
      ∙ kept))
    where
      by_kind : (o : StoredObject) (k : StoredKind)
          → option_map_or (λ d. list_any (λ source. not (is_live_at meant source)) (ids_read d.query))
          (as_dynamic (object_meant (record o { kind = k }))) false ≡ false
          → AllByRecursion Lives (option_map_or (λ w. w.sources)
          (watched_object (object_meant (record o { kind = k }))) [])
      by_kind o (TableKind t) kept = tt
      by_kind o (StreamKind s) kept = tt
      by_kind o (TaskKind t) kept = tt
      by_kind o (DynamicKind d t) kept =
          all_map (λ source. not (is_live_at meant source) ≡ false) Lives
          (λ source is. not_true (is_live_at meant source) is) (ids_read d.query)
          (none_any (λ source. not (is_live_at meant source)) (ids_read d.query) kept)

      by_found : (found : Option StoredObject)
          → option_map_or (λ d. list_any (λ source. not (is_live_at meant source)) (ids_read d.query))
          (option_and_then (λ o. as_dynamic (object_meant o)) found) false ≡ false
          → AllByRecursion Lives (option_map_or (λ w. w.sources)
          (option_and_then (λ o. watched_object (object_meant o)) found) [])
      by_found None kept = tt
      by_found (Some o) kept = by_kind o o.kind kept

  all_live : (id : ℕ) → Lives id → first_lost meant (with_upstream meant id) ≡ None
      → AllByRecursion Lives (upstream (dynamics_of meant) id ++ id ∷ [])
  all_live id live none =
      let read : AllByRecursion (λ n. AllByRecursion Lives (sources_at (dynamics_of meant) n))
      (upstream (dynamics_of meant) id ++ id ∷ []) =
      all_map (λ n. lost_source meant n ≡ false)
      (λ n. AllByRecursion Lives (sources_at (dynamics_of meant) n)) reads_live
      (upstream (dynamics_of meant) id ++ id ∷ []) (none_lost (with_upstream meant id) none) in
      all_append Lives (upstream (dynamics_of meant) id) (id ∷ [])
      (upstream_all Lives (dynamics_of meant) id
      (all_behind _ (upstream (dynamics_of meant) id) (id ∷ []) read).0
      (all_in_front _ (upstream (dynamics_of meant) id) (id ∷ []) read)) (live, tt)

  -- ---- tables that may be brought

  may_bring : AreStanding objects → (moment id : ℕ) → Lives id → stands_below (dynamics_of meant) moment id ≡ true
      → FoundAt (MayBring moment) objects id
  may_bring standing moment id live below =
      by_found (at_id objects id) refl (sym (live_found id) ∙ live)
      (sym (ap (λ (found : Option Watched). option_map_or (λ w. is_below moment w.state) found false)
      (watched_found id))
      ∙ below)
    where
      by_kind : (o : StoredObject) (k : StoredKind) → KindStands k
          → option_map_or (λ w. is_below moment w.state) (watched_object (object_meant (record o { kind = k }))) false
          ≡ true → KindRefreshable moment k × IfSome (dynamic_in k) HasItsGroups
      by_kind o (TableKind t) stands below = absurd cc
      by_kind o (StreamKind s) stands below = absurd cc
      by_kind o (TaskKind t) stands below = absurd cc
      by_kind o (DynamicKind d t) stands below =
          let moment_is : d.state.moment ≤ moment = below_is moment d.state below in (
            (moment_is, (stands.0, falls_later (last_of t.versions) d.state.moment moment moment_is stands.1.0)),
            stands.1.1,
          )

      by_found : (found : Option StoredObject) → at_id objects id ≡ found
          → option_map_or (λ o. o.is_live) found false ≡ true
          → option_map_or (λ w. is_below moment w.state) (option_and_then (λ o. watched_object (object_meant o)) found)
          false ≡ true → IsSomeAnd found (MayBring moment)
      by_found None none live below = absurd cc
      by_found (Some o) there live below =
          let may = by_kind o o.kind (all_at (λ o. KindStands o.kind) objects id o standing there) below in
          ((live, may.0), may.1)

  all_may : AreStanding objects → (moment id : ℕ) → AllByRecursion Lives (upstream (dynamics_of meant) id ++ id ∷ [])
      → AllByRecursion (FoundAt (MayBring moment) objects) (brought (dynamics_of meant) id moment)
  unfolding brought
  all_may standing moment id live =
      let below : ℕ → Bool = stands_below (dynamics_of meant) moment in
      let all : List ℕ = upstream (dynamics_of meant) id ++ id ∷ [] in
      all_both Lives (λ n. below n ≡ true) (FoundAt (MayBring moment) objects)
      (λ n live is. may_bring standing moment n live is) (filter below all)
      (all_filter Lives below all live) (filtered_pass below all)

  -- ---- numbers

  all_within : (all : List Brought) → number_refusal meant all ≡ None → AllByRecursion (IsWithinNumbers meant) all
  all_within all none =
      by_rows (list_any (is_row_past meant) all) refl (list_any (is_partition_past meant) all) refl none
    where
      by_rows : (rows : Bool) → list_any (is_row_past meant) all ≡ rows → (partitions : Bool)
          → list_any (is_partition_past meant) all ≡ partitions
          → cond rows (Some (OverLimit limits.RowNumber))
          (cond partitions (Some (OverLimit limits.PartitionNumber)) None)
          ≡ None → AllByRecursion (IsWithinNumbers meant) all
      by_rows true rows_are partitions are none = absurd cc
      by_rows false rows_are true are none = absurd cc
      by_rows false rows_are false are none =
          all_both (λ b. is_row_past meant b ≡ false) (λ b. is_partition_past meant b ≡ false) (IsWithinNumbers meant)
          (λ b rows partitions. record { rows = rows; partitions = partitions }) all
          (none_any (is_row_past meant) all rows_are) (none_any (is_partition_past meant) all are)

  -- ---- a refresh

  abbrev GoesIf : ℕ → Refreshing → Type 0
  GoesIf stamp r = (lines : List Refreshed) (acts : List Act) → r ≡ Brings lines acts
      → AllGo stamp objects (written stamp objects acts)

  goes_by : (stamp : ℕ) → IsFirm objects → AreStanding objects → (besides : Option Refusal) (id moment : ℕ) → Lives id
      → GoesIf stamp (refresh_by meant moment
      (first_of (first_lost meant (with_upstream meant id) ∷ besides ∷ []))
      (brought_all stamp moment (brought (dynamics_of meant) id moment) meant))
  goes_by stamp firm standing besides id moment live =
      by_refusal (first_of (first_lost meant (with_upstream meant id) ∷ besides ∷ [])) refl
      (brought_all stamp moment (brought (dynamics_of meant) id moment) meant) refl
    where
      by_limit : (all : List Brought) (found : Option Refusal) → number_refusal meant all ≡ found
          → (number_refusal meant all ≡ None
          → AllGo stamp objects (written stamp objects (flat_map (acts_of_one moment) all)))
          → GoesIf stamp (unless_past found (map (told_of meant moment) all) (flat_map (acts_of_one moment) all))
      by_limit all (Some why) past goes lines acts is = absurd cc
      by_limit all None past goes lines acts is =
          let same : flat_map (acts_of_one moment) all ≡ acts = cc in
          subst (λ (acts : List Act). AllGo stamp objects (written stamp objects acts)) same (goes past)

      by_refusal : (found : Option Refusal)
          → first_of (first_lost meant (with_upstream meant id) ∷ besides ∷ []) ≡ found
          → (all : Option (List Brought)) → brought_all stamp moment (brought (dynamics_of meant) id moment) meant ≡ all
          → GoesIf stamp (refresh_by meant moment found all)
      by_refusal (Some why) tests all brought_is lines acts is = absurd cc
      by_refusal None tests None brought_is lines acts is = absurd cc
      by_refusal None tests (Some all) brought_is lines acts is =
          by_limit all (number_refusal meant all) refl (λ none.
          all_go stamp moment 0 (brought (dynamics_of meant) id moment) objects
          (brought_rise (dynamics_of meant) id moment)
          (all_may standing moment id
          (all_live id live (passed (first_lost meant (with_upstream meant id)) _ tests).0)) firm all brought_is
          (all_within all none)) lines acts is

  pub refresh_goes : (s : State) → s.objects ≡ meant → IsFirm objects → AreStanding objects
      → (besides : Option Refusal) (id moment : ℕ) → is_live_at meant id ≡ true
      → (lines : List Refreshed) (acts : List Act) → refresh s besides id moment ≡ Brings lines acts
      → AllGo s.last objects (written s.last objects acts)
  unfolding refresh
  refresh_goes s same firm standing besides id moment live =
      subst (λ (found : List Object). GoesIf s.last (refresh_by found moment
      (first_of (first_lost found (with_upstream found id) ∷ besides ∷ []))
      (brought_all s.last moment (brought (dynamics_of found) id moment) found))) (sym same)
      (goes_by s.last firm standing besides id moment live)
