-- The entries of rows, by rising number.
--     entries_rise     their numbers rise
--     each_found       each is found by its number
--     kept_entries     of rows, those that stand in a part of them
use Rattle.std.proofs.Common.{◌≡◌, ℕ, ◌+◌, ◌≤◌, ◌⊎◌, inl, inr, cond}
use Rattle.std.proofs.Common.{Bool, List, [], ◌∷◌, Option, Some, None}
use Rattle.std.proofs.Common.{refl, sym, ap, ◌∙◌, arith}
use Rattle.std.specs.Prelude.{is_some}
use Rattle.std.specs.List.{AllByRecursion}
use Rattle.std.specs.Cmp.{nat_cmp_total}
use Rattle.std.specs.Ordering.{nat_cmp}
use Rattle.std.specs.FinMap.{get, entries, entries_sorted, get-entries, nat_cmp-IsAntisymmetric}
use Rattle.std.specs.FinMap.Entries.{find, where_key, is_sorted-where_key, find-where_key}
use Rattle.std.specs.FinMap.Entries.{same_entries}
use Rattle.wh_value.specs.Value.{Row}
use Rattle.wh_frame.specs.Spelling.{RisesFrom}
use Rattle.wh_state.specs.State.{Rows}
use Rattle.wh_state.proofs.AllLaws.{all_map, all_both}
use Rattle.wh_state.proofs.RisingEntries.{map_rises}
use Rattle.wh_version.proofs.RisingEdits.{tied, more_untied}

pub entries_rise : (rows : Rows) → RisesFrom 0 (entries rows)
entries_rise rows = map_rises RisesFrom (λ least. tt) (λ least e es from rest. (from, rest)) rows

all_from : (least : ℕ) (es : List (ℕ × Row)) → RisesFrom least es → AllByRecursion (λ e. least ≤ e.0) es
all_from least [] up = tt
all_from least (e ∷ es) up = (
  up.0,
  all_map (λ f. e.0 + 1 ≤ f.0) (λ f. least ≤ f.0) (λ f h. omega (arith, h, up.0)) es
      (all_from (e.0 + 1) es up.1),
)

abbrev IsFound : List (ℕ × Row) → ℕ × Row → Type 0
IsFound es e = find nat_cmp e.0 es ≡ Some e.1

rising_found : (least : ℕ) (es : List (ℕ × Row)) → RisesFrom least es → AllByRecursion (IsFound es) es
rising_found least [] up = tt
rising_found least (e ∷ es) up = (
  ap (λ (b : Bool). cond b (Some e.1) (find nat_cmp e.0 es)) (tied e.0 e.0 refl),
  all_both (λ f. e.0 + 1 ≤ f.0) (IsFound es) (IsFound (e ∷ es))
      (λ f above there. ap (λ (b : Bool). cond b (Some e.1) (find nat_cmp f.0 es))
      (more_untied f.0 e.0 (omega (arith, above))) ∙ there) es (all_from (e.0 + 1) es up.1)
      (rising_found (e.0 + 1) es up.1),
)

pub each_found : (rows : Rows) → AllByRecursion (λ e. get rows e.0 ≡ Some e.1) (entries rows)
each_found rows =
    all_map (IsFound (entries rows)) (λ e. get rows e.0 ≡ Some e.1) (λ e there. get-entries rows e.0 ∙ there)
    (entries rows) (rising_found 0 (entries rows) (entries_rise rows))

pub kept_entries : (rows part : Rows) → ((n : ℕ) → (get part n ≡ get rows n) ⊎ (get part n ≡ None))
    → where_key nat_cmp (λ n. is_some (get part n)) (entries rows) ≡ entries part
kept_entries rows part either =
    same_entries nat_cmp nat_cmp_total nat_cmp-IsAntisymmetric (where_key nat_cmp stands (entries rows)) (entries part)
    (is_sorted-where_key nat_cmp stands (entries rows) (entries_sorted rows)) (entries_sorted part) at_number
  where
    stands : ℕ → Bool
    stands n = is_some (get part n)

    by_part : (q : ℕ) (there whole : Option Row) → (there ≡ whole) ⊎ (there ≡ None)
        → cond (is_some there) whole None ≡ there
    by_part q None whole is = refl
    by_part q (Some row) whole (inl is) = sym is
    by_part q (Some row) whole (inr none) = absurd cc

    at_number : (q : ℕ) → find nat_cmp q (where_key nat_cmp stands (entries rows)) ≡ find nat_cmp q (entries part)
    at_number q =
        find-where_key nat_cmp stands q (λ x same. ap stands (sym (nat_cmp-IsAntisymmetric q x same))) (entries rows)
        ∙ ap (λ found. cond (stands q) found None) (sym (get-entries rows q))
        ∙ by_part q (get part q) (get rows q) (either q)
        ∙ get-entries part q
