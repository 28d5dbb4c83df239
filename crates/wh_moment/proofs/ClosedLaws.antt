-- The dynamic tables that one reads, directly or through others, are among its upstream.
--     among_front, among_behind     a number among the first of two lists, or the second
--     reads_upstream                what the table reads itself
--     upstream_closed               and what each of its upstream reads
use Rattle.std.proofs.Common.{◌≡◌, ℕ, zero, suc, ◌-◌, ◌<◌, ◌≤◌, ◌⊎◌, inl, inr, Bool, true, false, cond, List, [], ◌∷◌}
use Rattle.std.proofs.Common.{◌++◌, Option, Some, None, refl, sym, ap, ◌∙◌, arith}
use Rattle.std.specs.Prelude.{◌&&◌, ◌||◌, is_some, nat_eq}
use Rattle.std.specs.Option.{option_map_or}
use Rattle.std.proofs.lemmas.Bool.Decides.{nat_tests}
use Rattle.wh_state.specs.Edits.{is_among}
use Rattle.wh_moment.specs.Upstream.{Watched, Dynamics, watched_at, more_read, if_reached, reached_from, upstream}

-- ---- numbers among lists

either_true : (a b c : Bool) → (a || (b || c)) ≡ ((a || b) || c)
either_true true b c = refl
either_true false b c = refl

among_append : (x : ℕ) (ids more : List ℕ) → is_among x (ids ++ more) ≡ (is_among x ids || is_among x more)
among_append x [] more = refl
among_append x (id ∷ ids) more =
    ap (λ (b : Bool). nat_eq x id || b) (among_append x ids more)
    ∙ either_true (nat_eq x id) (is_among x ids) (is_among x more)

first_holds : (a b : Bool) → a ≡ true → (a || b) ≡ true
first_holds true b is = refl
first_holds false b is = absurd cc

second_holds : (a b : Bool) → b ≡ true → (a || b) ≡ true
second_holds true b is = refl
second_holds false b is = is

one_holds : (a b : Bool) → (a || b) ≡ true → (a ≡ true) ⊎ (b ≡ true)
one_holds true b is = inl refl
one_holds false b is = inr is

pub among_front : (x : ℕ) (ids more : List ℕ) → is_among x ids ≡ true → is_among x (ids ++ more) ≡ true
among_front x ids more is = among_append x ids more ∙ first_holds (is_among x ids) (is_among x more) is

pub among_behind : (x : ℕ) (ids more : List ℕ) → is_among x more ≡ true → is_among x (ids ++ more) ≡ true
among_behind x ids more is = among_append x ids more ∙ second_holds (is_among x ids) (is_among x more) is

pub among_either : (x : ℕ) (ids more : List ℕ) → is_among x (ids ++ more) ≡ true
    → (is_among x ids ≡ true) ⊎ (is_among x more ≡ true)
among_either x ids more is = one_holds (is_among x ids) (is_among x more) (sym (among_append x ids more) ∙ is)

pub same_number : (x y : ℕ) → nat_eq x y ≡ true → x ≡ y
same_number x y test = grind (arith, nat_tests)

self_eq : (x : ℕ) → nat_eq x x ≡ true
self_eq x = grind (arith, nat_tests)

pub among_one : (x y : ℕ) → is_among x (y ∷ []) ≡ true → x ≡ y
among_one x y is = by_either (one_holds (nat_eq x y) false is)
  where
    by_either : (nat_eq x y ≡ true) ⊎ (false ≡ true) → x ≡ y
    by_either (inl same) = same_number x y same
    by_either (inr never) = absurd cc

-- ---- what is reached on one way down

-- a dynamic table that is asked for
reached_asked : (all : Dynamics) (most : ℕ) (ids : List ℕ) (x : ℕ) (w : Watched) → 0 < x → x ≤ most
    → is_among x ids ≡ true → watched_at all x ≡ Some w → is_among x (reached_from all most ids) ≡ true
reached_asked all zero ids x w some within is at = absurd (omega (arith, some, within))
reached_asked all (suc most) ids x w some within is at =
    by_place (same_or_less x most within) (λ less.
    reached_asked all most (ids ++ more_read all (suc most) ids) x w some less
    (among_front x ids (more_read all (suc most) ids) is) at)
  where
    same_or_less : (x most : ℕ) → x ≤ suc most → (x ≡ suc most) ⊎ (x ≤ most)
    same_or_less zero most h = inr (omega arith)
    same_or_less (suc x) zero h = inl (omega (arith, h))
    same_or_less (suc x) (suc most) h = further (same_or_less x most (omega (arith, h)))
      where
        further : (x ≡ suc most) ⊎ (x ≤ most) → (suc x ≡ suc (suc most)) ⊎ (suc x ≤ suc most)
        further (inl same) = inl (ap suc same)
        further (inr less) = inr (omega (arith, less))

    others : List ℕ
    others = reached_from all most (ids ++ more_read all (suc most) ids)

    here : x ≡ suc most → is_among x (if_reached all (suc most) ids) ≡ true
    here same =
        let asked : is_among (suc most) ids ≡ true = ap (λ (n : ℕ). is_among n ids) (sym same) ∙ is in
        let there : is_some (watched_at all (suc most)) ≡ true =
        ap (λ (n : ℕ). is_some (watched_at all n)) (sym same) ∙ ap is_some at in
        ap (λ (b : Bool). is_among x (cond (b && is_some (watched_at all (suc most))) (suc most ∷ []) [])) asked
        ∙ ap (λ (b : Bool). is_among x (cond b (suc most ∷ []) [])) there
        ∙ first_holds (nat_eq x (suc most)) false (ap (nat_eq x) (sym same) ∙ self_eq x)

    by_place : (x ≡ suc most) ⊎ (x ≤ most) → (x ≤ most → is_among x others ≡ true)
        → is_among x (others ++ if_reached all (suc most) ids) ≡ true
    by_place (inl same) before = among_behind x others (if_reached all (suc most) ids) (here same)
    by_place (inr less) before = among_front x others (if_reached all (suc most) ids) (before less)

-- what one reads is what is below it and dynamic
abbrev pub IsReadBy : Dynamics → ℕ → ℕ → Type 0
IsReadBy all x y = is_among x (option_map_or (λ w. w.sources) (watched_at all y) []) ≡ true

-- what a table that is reached reads
reached_reads : (all : Dynamics) (most : ℕ) (ids : List ℕ) (x y : ℕ) (w : Watched) → 0 < x → x < y
    → is_among y (reached_from all most ids) ≡ true → IsReadBy all x y → watched_at all x ≡ Some w
    → is_among x (reached_from all most ids) ≡ true
reached_reads all zero ids x y w some less reached is at = absurd cc
reached_reads all (suc most) ids x y w some less reached is at =
    by_part (among_either y others (if_reached all (suc most) ids) reached) (λ before.
    reached_reads all most (ids ++ more_read all (suc most) ids) x y w some less before is at)
  where
    others : List ℕ
    others = reached_from all most (ids ++ more_read all (suc most) ids)

    -- where the last one is reached
    last : (asked there : Bool) → is_among (suc most) ids ≡ asked
        → is_among y (cond (asked && there) (suc most ∷ []) []) ≡ true
        → (y ≡ suc most) × (is_among (suc most) ids ≡ true)
    last true true asked reached = (among_one y (suc most) reached, asked)
    last true false asked reached = absurd cc
    last false there asked reached = absurd cc

    read : (y ≡ suc most) × (is_among (suc most) ids ≡ true) → is_among x (more_read all (suc most) ids) ≡ true
    read both =
        ap (λ (b : Bool). is_among x (cond b (option_map_or (λ w. w.sources) (watched_at all (suc most)) []) [])) both.1
        ∙ ap (λ (n : ℕ). is_among x (option_map_or (λ w. w.sources) (watched_at all n) [])) (sym both.0) ∙ is

    by_part : (is_among y others ≡ true) ⊎ (is_among y (if_reached all (suc most) ids) ≡ true)
        → (is_among y others ≡ true → is_among x others ≡ true)
        → is_among x (others ++ if_reached all (suc most) ids) ≡ true
    by_part (inl before) reads = among_front x others (if_reached all (suc most) ids) (reads before)
    by_part (inr here) reads =
        let both : (y ≡ suc most) × (is_among (suc most) ids ≡ true) =
        last (is_among (suc most) ids) (is_some (watched_at all (suc most))) refl here in
        among_front x others (if_reached all (suc most) ids)
        (reached_asked all most (ids ++ more_read all (suc most) ids) x w some (omega (arith, less, both.0))
        (among_behind x ids (more_read all (suc most) ids) (read both)) at)

-- ---- the upstream

-- a dynamic table below it that it reads
pub reads_upstream : (all : Dynamics) (id x : ℕ) (v w : Watched) → watched_at all id ≡ Some v
    → is_among x v.sources ≡ true → 0 < x → x < id → watched_at all x ≡ Some w
    → is_among x (upstream all id) ≡ true
unfolding upstream
reads_upstream all id x v w is among some less at =
    ap (λ (found : Option Watched). is_among x (option_map_or (λ w. reached_from all (id - 1) w.sources) found [])) is
    ∙ reached_asked all (id - 1) v.sources x w some (omega (arith, less)) among at

-- and one that is read by one of them
pub upstream_closed : (all : Dynamics) (id x y : ℕ) (w : Watched) → is_among y (upstream all id) ≡ true
    → IsReadBy all x y → 0 < x → x < y → watched_at all x ≡ Some w
    → is_among x (upstream all id) ≡ true
unfolding upstream
upstream_closed all id x y w above is some less at = by_found (watched_at all id) above
  where
    by_found : (found : Option Watched)
        → is_among y (option_map_or (λ w. reached_from all (id - 1) w.sources) found []) ≡ true
        → is_among x (option_map_or (λ w. reached_from all (id - 1) w.sources) found []) ≡ true
    by_found None above = absurd cc
    by_found (Some v) above = reached_reads all (id - 1) v.sources x y w some less above is at
