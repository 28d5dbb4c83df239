-- The tables that one reads, and those that a refresh brings to a moment.
--     RiseFrom          ids that rise, from one on
--     upstream_rises    what one reads, by rising ids below its own
--     brought_rise      those that its refresh brings, and itself the last
--     brought_watched, watched_kind     each of them is a dynamic table
use Rattle.std.proofs.Common.{ℕ, zero, suc, ◌-◌, ◌<◌, ◌≤◌, Bool, true, false, cond, List, [], ◌∷◌, ◌++◌, Option}
use Rattle.std.proofs.Common.{Some}
use Rattle.std.proofs.Common.{None, ◌≡◌, option_map, refl, subst, arith}
use Rattle.std.specs.Prelude.{◌&&◌, is_some, unwrap_or}
use Rattle.std.specs.List.{AllByRecursion, filter}
use Rattle.std.specs.Option.{option_map_or, option_and_then, IsSomeAnd}
use Rattle.wh_state.specs.State.{Object, Kind, TableKind, StreamKind, TaskKind, DynamicKind, dynamic_in, at_id}
use Rattle.wh_state.specs.Objects.{as_dynamic, dynamic_at}
use Rattle.wh_state.proofs.IdLaws.{map_at}
use Rattle.wh_state.specs.Edits.{is_among}
use Rattle.wh_state.proofs.AllLaws.{all_append, all_map}
use Rattle.wh_moment.specs.Upstream.{Watched, Dynamics, watched_at, more_read, if_reached, reached_from, upstream}
use Rattle.wh_moment.specs.Upstream.{is_below, stands_below, brought, watched, watched_object, dynamics_of}

abbrev pub RiseFrom : ℕ → List ℕ → Type 0
RiseFrom least [] = Unit {0}
RiseFrom least (id ∷ ids) = (least ≤ id) × RiseFrom (suc id) ids

-- between the first of them and the last
abbrev pub IsWithin : ℕ → ℕ → ℕ → Type 0
IsWithin least most id = (least ≤ id) × (id ≤ most)

abbrev pub AreWithin : ℕ → ℕ → List ℕ → Type 0
AreWithin least most ids = AllByRecursion (IsWithin least most) ids

pub rise_weaker : (least more : ℕ) (ids : List ℕ) → least ≤ more → RiseFrom more ids → RiseFrom least ids
rise_weaker least more [] h rise = tt
rise_weaker least more (id ∷ ids) h rise = (omega (arith, rise.0), rise.1)

pub rise_append : (least next : ℕ) (ids more : List ℕ) → least ≤ next → RiseFrom least ids
    → AllByRecursion (λ id. id < next) ids → RiseFrom next more → RiseFrom least (ids ++ more)
rise_append least next [] more h rise below others = rise_weaker least next more h others
rise_append least next (id ∷ ids) more h rise below others =
    (rise.0, rise_append (suc id) next ids more (omega (arith, below.0)) rise.1 below.1 others)

pub rise_filter : (test : ℕ → Bool) (least : ℕ) (ids : List ℕ) → RiseFrom least ids → RiseFrom least (filter test ids)
rise_filter test least [] rise = tt
rise_filter test least (id ∷ ids) rise = by_test (test id) (rise_filter test (suc id) ids rise.1)
  where
    by_test : (b : Bool) → RiseFrom (suc id) (filter test ids)
        → RiseFrom least (cond b (id ∷ filter test ids) (filter test ids))
    by_test true rest = (rise.0, rest)
    by_test false rest = rise_weaker least (suc id) (filter test ids) (omega (arith, rise.0)) rest

-- ---- what is reached on one way down

-- the last one that may be reached
one_reached : (all : Dynamics) (id : ℕ) (ids : List ℕ) → RiseFrom (suc id) (if_reached all (suc id) ids)
    × AreWithin 1 (suc id) (if_reached all (suc id) ids)
one_reached all id ids = by_test (is_among (suc id) ids && is_some (watched_at all (suc id)))
  where
    by_test : (b : Bool) → RiseFrom (suc id) (cond b (suc id ∷ []) []) × AreWithin 1 (suc id) (cond b (suc id ∷ []) [])
    by_test true = ((omega arith, tt), ((omega arith, omega arith), tt))
    by_test false = (tt, tt)

reached_rise : (all : Dynamics) (id : ℕ) (ids : List ℕ) → RiseFrom 1 (reached_from all id ids)
    × AreWithin 1 id (reached_from all id ids)
reached_rise all zero ids = (tt, tt)
reached_rise all (suc id) ids =
    let before = reached_rise all id (ids ++ more_read all (suc id) ids) in
    let here = one_reached all id ids in
    let others : List ℕ = reached_from all id (ids ++ more_read all (suc id) ids) in (
      rise_append 1 (suc id) others (if_reached all (suc id) ids) (omega arith) before.0
          (all_map (IsWithin 1 id) (λ n. n < suc id) (λ n h. omega (arith, h.1)) others before.1) here.0,
      all_append (IsWithin 1 (suc id)) others (if_reached all (suc id) ids)
          (all_map (IsWithin 1 id) (IsWithin 1 (suc id)) (λ n h. (h.0, omega (arith, h.1))) others before.1) here.1,
    )

pub upstream_rises : (all : Dynamics) (id : ℕ) → RiseFrom 1 (upstream all id)
    × AllByRecursion (λ n. n < id) (upstream all id)
unfolding upstream
upstream_rises all id = by_found (watched_at all id)
  where
    by_found : (found : Option Watched) → RiseFrom 1 (option_map_or (λ w. reached_from all (id - 1) w.sources) found [])
        × AllByRecursion (λ n. n < id) (option_map_or (λ w. reached_from all (id - 1) w.sources) found [])
    by_found None = (tt, tt)
    by_found (Some w) =
        let rises = reached_rise all (id - 1) w.sources in (
          rises.0,
          all_map (IsWithin 1 (id - 1)) (λ n. n < id) (λ n h. omega (arith, h.0, h.1))
              (reached_from all (id - 1) w.sources) rises.1,
        )

-- the table behind its upstream
pub with_upstream_rises : (all : Dynamics) (id : ℕ) → RiseFrom 0 (upstream all id ++ id ∷ [])
with_upstream_rises all id =
    let rises = upstream_rises all id in
    rise_append 0 id (upstream all id) (id ∷ []) (omega arith) (rise_weaker 0 1 (upstream all id) (omega arith) rises.0)
    rises.1 (omega arith, tt)

pub brought_rise : (all : Dynamics) (id target : ℕ) → RiseFrom 0 (brought all id target)
unfolding brought
brought_rise all id target =
    rise_filter (stands_below all target) 0 (upstream all id ++ id ∷ []) (with_upstream_rises all id)

-- ---- each of them is a dynamic table

abbrev pub IsWatched : Dynamics → ℕ → Type 0
IsWatched all id = IsSomeAnd (watched_at all id) (λ w. Unit {0})

pub brought_watched : (all : Dynamics) (id target : ℕ) → AllByRecursion (IsWatched all) (brought all id target)
unfolding brought
brought_watched all id target = of_all (upstream all id ++ id ∷ [])
  where
    by_found : (found : Option Watched) → option_map_or (λ w. is_below target w.state) found false ≡ true
        → IsSomeAnd found (λ w. Unit {0})
    by_found None is = absurd cc
    by_found (Some w) is = tt

    of_all : (ids : List ℕ) → AllByRecursion (IsWatched all) (filter (stands_below all target) ids)
    of_all [] = tt
    of_all (one ∷ ids) = by_test (stands_below all target one) refl (of_all ids)
      where
        by_test : (b : Bool) → stands_below all target one ≡ b
            → AllByRecursion (IsWatched all) (filter (stands_below all target) ids)
            → AllByRecursion (IsWatched all)
            (cond b (one ∷ filter (stands_below all target) ids) (filter (stands_below all target) ids))
        by_test true is rest = (by_found (watched_at all one) is, rest)
        by_test false is rest = rest

-- among the objects of a state
pub watched_kind : (objects : List Object) (id : ℕ) → IsWatched (dynamics_of objects) id
    → IsSomeAnd (dynamic_at objects id) (λ d. Unit {0})
watched_kind objects id is = by_found (at_id objects id)
    (subst (λ (found : Option (Option Watched)). IsSomeAnd (unwrap_or found None) (λ w. Unit {0}))
    (map_at watched_object objects id) is)
  where
    by_kind : (o : Object) (k : Kind) → IsSomeAnd (watched o.is_live k) (λ w. Unit {0})
        → IsSomeAnd (dynamic_in k) (λ d. Unit {0})
    by_kind o (TableKind t) is = absurd is
    by_kind o (StreamKind s) is = absurd is
    by_kind o (TaskKind t) is = absurd is
    by_kind o (DynamicKind d t) is = tt

    by_found : (found : Option Object)
        → IsSomeAnd (unwrap_or (option_map watched_object found) None) (λ w. Unit {0})
        → IsSomeAnd (option_and_then as_dynamic found) (λ d. Unit {0})
    by_found None is = absurd is
    by_found (Some o) is = by_kind o o.kind is
