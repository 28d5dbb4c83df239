-- The moment that a due table is brought to.
--     IsDueAt, due_is      a due table, with its target
--     due_some             its target is a moment
--     due_within           and not behind the stamp, where no table stands for a moment behind it
--     due_greatest         and no table that is upstream stands for a later one
use Rattle.std.proofs.Common.{◌≡◌, ℕ, ◌<◌, ◌≤◌, max, Bool, true, false, cond, List, [], ◌∷◌}
use Rattle.std.proofs.Common.{Option, Some, None, refl, ap, subst, arith}
use Rattle.std.specs.Prelude.{◌&&◌, ◌||◌, not, nat_lt, nat_eq}
use Rattle.std.specs.Option.{option_map_or}
use Rattle.std.proofs.lemmas.Bool.Decides.{nat_tests}
use Rattle.std.proofs.lemmas.Nat.{div-add-mod'}
use Rattle.wh_state.specs.Edits.{is_among}
use Rattle.wh_moment.proofs.ClosedLaws.{same_number}
use Rattle.wh_moment.specs.Upstream.{Watched, Dynamics, watched_at, upstream}
use Rattle.wh_moment.specs.Moment.{period, grid, stands_since, has_come, is_waiting_for, is_due, moment_at}
use Rattle.wh_moment.specs.Moment.{greatest_moment}
use Rattle.wh_moment.specs.Moment.{target, sooner, due_among, ids_from, due_table}

-- ---- the one that is due

pub record IsDueAt (all : Dynamics) (stamp : ℕ) (due : ℕ × ℕ) : Type 0 where
  pub is_due : is_due all stamp due.0 ≡ true
  pub target : due.1 ≡ target all stamp due.0

abbrev IsDueFound : Dynamics → ℕ → Option (ℕ × ℕ) → Type 0
IsDueFound all stamp None = Unit {0}
IsDueFound all stamp (Some due) = IsDueAt all stamp due

sooner_due : (all : Dynamics) (stamp : ℕ) (found : Option (ℕ × ℕ)) (next : ℕ × ℕ) → IsDueFound all stamp found
    → IsDueAt all stamp next → IsDueAt all stamp (sooner found next)
sooner_due all stamp None next was is = is
sooner_due all stamp (Some found) next was is = by_test (nat_lt next.1 found.1)
  where
    by_test : (b : Bool) → IsDueAt all stamp (cond b next found)
    by_test true = is
    by_test false = was

among_due : (all : Dynamics) (stamp : ℕ) (found : Option (ℕ × ℕ)) (ids : List ℕ) → IsDueFound all stamp found
    → IsDueFound all stamp (due_among all stamp found ids)
among_due all stamp found [] was = was
among_due all stamp found (id ∷ ids) was =
    among_due all stamp (cond (is_due all stamp id) (Some (sooner found (id, target all stamp id))) found) ids
    (by_test (is_due all stamp id) refl)
  where
    by_test : (b : Bool) → is_due all stamp id ≡ b
        → IsDueFound all stamp (cond b (Some (sooner found (id, target all stamp id))) found)
    by_test true due = sooner_due all stamp found (id, target all stamp id) was (record { is_due = due; target = refl })
    by_test false due = was

pub due_is : (all : Dynamics) (stamp : ℕ) (due : ℕ × ℕ) → due_table all stamp ≡ Some due → IsDueAt all stamp due
unfolding due_table
due_is all stamp due is = by_found (due_among all stamp None (ids_from 1 all)) is
    (among_due all stamp None (ids_from 1 all) tt)
  where
    by_found : (found : Option (ℕ × ℕ)) → found ≡ Some due → IsDueFound all stamp found → IsDueAt all stamp due
    by_found None is was = absurd cc
    by_found (Some other) is was = let same : other ≡ due = cc in subst (IsDueAt all stamp) same was

-- ---- its target

both_so : (a b : Bool) → (a && b) ≡ true → (a ≡ true) × (b ≡ true)
both_so true b is = (refl, is)
both_so false b is = absurd cc

-- a moment has come
pub due_some : (all : Dynamics) (stamp : ℕ) (due : ℕ × ℕ) → IsDueAt all stamp due → 0 < due.1
unfolding is_due target
due_some all stamp due is =
    let waits = (both_so (option_map_or (is_waiting_for stamp) (watched_at all due.0) false) _ is.is_due).0 in
    omega (arith, is.target, by_found (watched_at all due.0) waits)
  where
    came : (since point tried : ℕ) → (nat_lt since point && nat_lt tried point) ≡ true → 0 < point
    came since point tried test =
        let first : nat_lt since point ≡ true = (both_so (nat_lt since point) (nat_lt tried point) test).0 in
        let less : since < point = grind (arith, nat_tests) in
        omega (arith, less)

    by_found : (found : Option Watched) → option_map_or (is_waiting_for stamp) found false ≡ true
        → 0 < option_map_or (λ w. grid w.state.lag stamp) found 0
    by_found None waits = absurd cc
    by_found (Some w) waits =
        came (stands_since w) (grid w.state.lag stamp) w.state.tried
        (both_so (w.is_live && not w.state.is_suspended && nat_lt 0 w.state.lag) (has_come (grid w.state.lag stamp) w)
        waits).1

grid_within : (lag stamp : ℕ) → grid lag stamp ≤ stamp
unfolding grid
grid_within lag stamp = omega (arith, div-add-mod' stamp (period lag))

greatest_within : (all : Dynamics) (stamp : ℕ) → ((id : ℕ) → moment_at all id ≤ stamp) → (ids : List ℕ)
    → greatest_moment all ids ≤ stamp
greatest_within all stamp each [] = omega arith
greatest_within all stamp each (id ∷ ids) = omega (arith, each id, greatest_within all stamp each ids)

pub due_within : (all : Dynamics) (stamp : ℕ) (due : ℕ × ℕ) → IsDueAt all stamp due
    → ((id : ℕ) → moment_at all id ≤ stamp) → due.1 ≤ stamp
unfolding target
due_within all stamp due is each =
    omega (
      arith,
      is.target,
      by_found (watched_at all due.0),
      greatest_within all stamp each (upstream all due.0),
    )
  where
    by_found : (found : Option Watched) → option_map_or (λ w. grid w.state.lag stamp) found 0 ≤ stamp
    by_found None = omega arith
    by_found (Some w) = grid_within w.state.lag stamp

-- none of some is greater than the greatest
none_greater : (all : Dynamics) (ids : List ℕ) (x : ℕ) → is_among x ids ≡ true
    → moment_at all x ≤ greatest_moment all ids
none_greater all [] x is = absurd cc
none_greater all (id ∷ ids) x is = by_test (nat_eq x id) refl is (λ is. none_greater all ids x is)
  where
    by_test : (b : Bool) → nat_eq x id ≡ b → (b || is_among x ids) ≡ true
        → (is_among x ids ≡ true → moment_at all x ≤ greatest_moment all ids)
        → moment_at all x ≤ max (moment_at all id) (greatest_moment all ids)
    by_test true test is rest =
        let same : moment_at all x ≡ moment_at all id = ap (moment_at all) (same_number x id test) in
        omega (arith, same)
    by_test false test is rest = omega (arith, rest is)

pub due_greatest : (all : Dynamics) (stamp : ℕ) (due : ℕ × ℕ) → IsDueAt all stamp due → (x : ℕ)
    → is_among x (upstream all due.0) ≡ true → moment_at all x ≤ due.1
unfolding target
due_greatest all stamp due is x above =
    omega (arith, is.target, none_greater all (upstream all due.0) x above)
