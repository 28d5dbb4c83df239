-- The entries of a map of numbers, by rising number.
--     both_hold, less_is     what two tests say together, and what the order of numbers says
--     map_rises              whatever is so of rising numbers is so of the entries
use Rattle.std.proofs.Common.{◌≡◌, ℕ, ◌+◌, ◌<◌, ◌≤◌, Bool, true, false, cond, List, [], ◌∷◌, T, arith, refl}
use Rattle.std.proofs.Common.{nat_lt, ◌==◌, Less, Equal, Greater}
use Rattle.std.specs.Prelude.{◌&&◌}
use Rattle.std.specs.FinMap.{FinMap, entries, entries_sorted}
use Rattle.std.specs.FinMap.Entries.{below_all, is_sorted}
use Rattle.std.specs.Ordering.{nat_cmp, is_lt}
use Rattle.std.proofs.lemmas.Bool.Decides.{nat_tests}

pub both_hold : (a b : Bool) → T (a && b) → T a × T b
both_hold true b h = (tt, h)
both_hold false b h = absurd h

pub less_is : (x y : ℕ) → T (is_lt (nat_cmp x y)) → x < y
less_is x y h = by_less (nat_lt x y) (x == y) h refl
  where
    by_less : (less same : Bool) → T (is_lt (cond less Less (cond same Equal Greater))) → nat_lt x y ≡ less → x < y
    by_less true same h is = grind (arith, nat_tests)
    by_less false true h is = absurd h
    by_less false false h is = absurd h

-- of entries from a least number on, where it is so of none and of one more before them
module _ {X : Type 0} (Rises : ℕ → List (ℕ × X) → Type 0) (none : (least : ℕ) → Rises least [])
    (more : (least : ℕ) (e : ℕ × X) (es : List (ℕ × X)) → least ≤ e.0 → Rises (e.0 + 1) es → Rises least (e ∷ es)) where
  sorted_rise : (least : ℕ) (e : ℕ × X) (es : List (ℕ × X)) → least ≤ e.0 → T (is_sorted nat_cmp (e ∷ es))
      → Rises least (e ∷ es)
  sorted_rise least e [] from sorted = more least e [] from (none (e.0 + 1))
  sorted_rise least e (f ∷ es) from sorted =
      let parts = both_hold (below_all nat_cmp e.0 (f ∷ es)) (is_sorted nat_cmp (f ∷ es)) sorted in
      let next = both_hold (is_lt (nat_cmp e.0 f.0)) (below_all nat_cmp e.0 es) parts.0 in
      more least e (f ∷ es) from
      (sorted_rise (e.0 + 1) f es (omega (arith, less_is e.0 f.0 next.0)) parts.1)

  all_rise : (es : List (ℕ × X)) → T (is_sorted nat_cmp es) → Rises 0 es
  all_rise [] sorted = none 0
  all_rise (e ∷ es) sorted = sorted_rise 0 e es (omega arith) sorted

  pub map_rises : (m : FinMap nat_cmp X) → Rises 0 (entries m)
  map_rises m = all_rise (entries m) (entries_sorted m)
