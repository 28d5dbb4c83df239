-- Row numbers sought among partitions.
--     placed_any                the first element that passes a test, and whether one does
--     bound_last, bound_more    bounds of row numbers
--     found_rows, seen_more     a number among the rows of partitions
use Rattle.std.proofs.Common.{◌≡◌, ℕ, suc, ◌+◌, max, cond, Bool, true, false, List, [], ◌∷◌, ◌++◌, Some, None}
use Rattle.std.proofs.Common.{length, nat_lt, refl, ap, ◌∙◌, arith}
use Rattle.std.proofs.lemmas.Bool.Decides.{nat_tests}
use Rattle.std.proofs.lemmas.List.Folds.{list_any-append}
use Rattle.std.specs.Prelude.{◌||◌, not, is_some}
use Rattle.std.specs.List.{list_any, position, position_or_len}
use Rattle.std.specs.Ordering.{nat_cmp, eq_by_cmp}
use Rattle.std.specs.FinMap.Entries.{find}
use Rattle.wh_value.specs.Value.{Row}
use Rattle.wh_frame.specs.Partition.{Partition, last_number}
use Rattle.wh_frame.specs.Spelling.{RisesFrom}
use Rattle.wh_table.specs.Rows.{all_rows}
use Rattle.wh_change.specs.Seen.{has_number, is_seen, IsBound}
use Rattle.wh_change.proofs.RisingRows.{behind_none}

next_lower : (a b : ℕ) → nat_lt (suc a) (suc b) ≡ nat_lt a b
next_lower a b = by_test (nat_lt a b) refl
  where
    by_test : (t : Bool) → nat_lt a b ≡ t → nat_lt (suc a) (suc b) ≡ t
    by_test true is = grind (arith, nat_tests)
    by_test false is = grind (arith, nat_tests)

within_any : {K : Type 0} (test : K → Bool) (xs : List K)
    → nat_lt (position_or_len test xs) (length xs) ≡ list_any test xs
within_any test [] = refl
within_any test (x ∷ xs) = by_test (test x) (within_any test xs)
  where
    by_test : (b : Bool) → nat_lt (position_or_len test xs) (length xs) ≡ list_any test xs
        → nat_lt (cond (not b) (1 + position_or_len test xs) 0) (suc (length xs)) ≡ (b || list_any test xs)
    by_test true rest = grind (arith, nat_tests)
    by_test false rest =
        let more : 1 + position_or_len test xs ≡ suc (position_or_len test xs) = omega arith in
        ap (λ n. nat_lt n (suc (length xs))) more ∙ next_lower (position_or_len test xs) (length xs) ∙ rest

pub placed_any : {K : Type 0} (test : K → Bool) (xs : List K) → is_some (position test xs) ≡ list_any test xs
placed_any test xs = whether (nat_lt (position_or_len test xs) (length xs)) ∙ within_any test xs
  where
    whether : (b : Bool) → is_some (cond b (Some (position_or_len test xs)) None) ≡ b
    whether true = refl
    whether false = refl

-- ---- bounds

neither : (a b : Bool) → a ≡ false → b ≡ false → (a || b) ≡ false
neither a b left right = (λ i. left i || right i)

pub bound_last : (p : Partition) → RisesFrom 0 p.rows → IsBound (last_number p.rows) (p ∷ [])
bound_last p up number above =
    neither (has_number number p) false (ap is_some (behind_none number 0 p.rows up above)) refl

pub bound_more : (a b : ℕ) (ps qs : List Partition) → IsBound a ps → IsBound b qs → IsBound (max a b) (ps ++ qs)
bound_more a b ps qs left right number above =
    list_any-append (has_number number) ps qs
    ∙ neither (is_seen number ps) (is_seen number qs) (left number (omega (arith, above)))
    (right number (omega (arith, above)))

-- ---- among the rows of partitions

found_more : (number : ℕ) (es fs : List (ℕ × Row))
    → is_some (find nat_cmp number (es ++ fs)) ≡ (is_some (find nat_cmp number es) || is_some (find nat_cmp number fs))
found_more number [] fs = refl
found_more number (e ∷ es) fs = by_test (eq_by_cmp nat_cmp number e.0) (found_more number es fs)
  where
    by_test : (b : Bool)
        → is_some (find nat_cmp number (es ++ fs))
        ≡ (is_some (find nat_cmp number es) || is_some (find nat_cmp number fs))
        → is_some (cond b (Some e.1) (find nat_cmp number (es ++ fs)))
        ≡ (is_some (cond b (Some e.1) (find nat_cmp number es)) || is_some (find nat_cmp number fs))
    by_test true rest = refl
    by_test false rest = rest

pub found_rows : (number : ℕ) (ps : List Partition)
    → is_some (find nat_cmp number (all_rows ps)) ≡ is_seen number ps
found_rows number [] = refl
found_rows number (p ∷ ps) =
    found_more number p.rows (all_rows ps) ∙ ap (λ b. has_number number p || b) (found_rows number ps)

pub seen_more : (number : ℕ) (ps qs : List Partition)
    → is_seen number (ps ++ qs) ≡ (is_seen number ps || is_seen number qs)
seen_more number ps qs = list_any-append (has_number number) ps qs
