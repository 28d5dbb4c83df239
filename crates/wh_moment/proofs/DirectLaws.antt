-- What holds of all that dynamic tables read directly holds of all that is upstream of one.
--     sources_at       what the dynamic table of an id reads
--     upstream_all     so it is
use Rattle.std.proofs.Common.{◌≡◌, ℕ, zero, suc, ◌-◌, Bool, true, false, cond, List, [], ◌∷◌, ◌++◌, Option, Some}
use Rattle.std.proofs.Common.{None, refl}
use Rattle.std.proofs.Common.{subst}
use Rattle.std.specs.Prelude.{◌&&◌, is_some}
use Rattle.std.specs.List.{AllByRecursion}
use Rattle.std.specs.Option.{option_map_or}
use Rattle.wh_state.specs.Edits.{is_among}
use Rattle.wh_state.proofs.AllLaws.{all_append, among_all}
use Rattle.wh_moment.specs.Upstream.{Watched, Dynamics, watched_at, more_read, if_reached, reached_from, upstream}

abbrev pub sources_at : Dynamics → ℕ → List ℕ
sources_at all id = option_map_or (λ w. w.sources) (watched_at all id) []

module _ (P : ℕ → Type 0) (all : Dynamics) where
  abbrev ReadsAll : ℕ → Type 0
  ReadsAll id = AllByRecursion P (sources_at all id)

  front : (Q : ℕ → Type 0) (xs ys : List ℕ) → AllByRecursion Q (xs ++ ys) → AllByRecursion Q xs
  front Q [] ys h = tt
  front Q (x ∷ xs) ys h = (h.0, front Q xs ys h.1)

  behind : (Q : ℕ → Type 0) (xs ys : List ℕ) → AllByRecursion Q (xs ++ ys) → AllByRecursion Q ys
  behind Q [] ys h = h
  behind Q (x ∷ xs) ys h = behind Q xs ys h.1

  -- what a table that is reached reads
  more_all : (id : ℕ) (ids : List ℕ) → AllByRecursion ReadsAll (if_reached all id ids)
      → AllByRecursion P (more_read all id ids)
  more_all id ids reads = by_test (is_among id ids) (watched_at all id) refl reads
    where
      by_test : (among : Bool) (found : Option Watched) → watched_at all id ≡ found
          → AllByRecursion ReadsAll (cond (among && is_some found) (id ∷ []) [])
          → AllByRecursion P (cond among (option_map_or (λ w. w.sources) found []) [])
      by_test false found is reads = tt
      by_test true None is reads = tt
      by_test true (Some w) is reads =
          subst (λ (found : Option Watched). AllByRecursion P (option_map_or (λ w. w.sources) found [])) is reads.0

  here_all : (id : ℕ) (ids : List ℕ) → AllByRecursion P ids → AllByRecursion P (if_reached all id ids)
  here_all id ids h = by_test (is_among id ids) refl (is_some (watched_at all id))
    where
      by_test : (among : Bool) → is_among id ids ≡ among → (watched : Bool)
          → AllByRecursion P (cond (among && watched) (id ∷ []) [])
      by_test false is watched = tt
      by_test true is false = tt
      by_test true is true = (among_all P id ids h is, tt)

  reached_all : (id : ℕ) (ids : List ℕ) → AllByRecursion P ids → AllByRecursion ReadsAll (reached_from all id ids)
      → AllByRecursion P (reached_from all id ids)
  reached_all zero ids h reads = tt
  reached_all (suc id) ids h reads =
      let others : List ℕ = reached_from all id (ids ++ more_read all (suc id) ids) in
      let last = behind ReadsAll others (if_reached all (suc id) ids) reads in
      all_append P others (if_reached all (suc id) ids)
      (reached_all id (ids ++ more_read all (suc id) ids)
      (all_append P ids (more_read all (suc id) ids) h (more_all (suc id) ids last))
      (front ReadsAll others (if_reached all (suc id) ids) reads)) (here_all (suc id) ids h)

  pub upstream_all : (id : ℕ) → AllByRecursion P (sources_at all id)
      → AllByRecursion (λ n. AllByRecursion P (sources_at all n)) (upstream all id)
      → AllByRecursion P (upstream all id)
  unfolding upstream
  upstream_all id own reads = by_found (watched_at all id) own reads
    where
      by_found : (found : Option Watched) → AllByRecursion P (option_map_or (λ w. w.sources) found [])
          → AllByRecursion ReadsAll (option_map_or (λ w. reached_from all (id - 1) w.sources) found [])
          → AllByRecursion P (option_map_or (λ w. reached_from all (id - 1) w.sources) found [])
      by_found None own reads = tt
      by_found (Some w) own reads = reached_all (id - 1) w.sources own reads
