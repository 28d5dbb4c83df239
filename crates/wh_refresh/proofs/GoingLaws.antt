-- A rebase that looks at some rows of a table, among which all stand that may go.
--     rebase_within     it comes to the same
use Rattle.std.proofs.Common.{◌≡◌, ℕ, zero, suc, ◌+◌, ◌-◌, ◌<◌, ◌⊎◌, inl, inr, Bool, true, false, cond, List, [], ◌∷◌}
use Rattle.std.proofs.Common.{map, filter, Option, Some, None, refl, sym, ap, subst, ◌∙◌, arith}
use Rattle.std.specs.Prelude.{is_some, not}
use Rattle.std.specs.Ordering.{eq_by_cmp}
use Rattle.std.specs.FinMap.{get, entries, values}
use Rattle.wh_value.specs.Value.{Row, row_cmp}
use Rattle.wh_meaning.specs.Bag.{Bag, times, count, bag_of}
use Rattle.wh_meaning.specs.BagChange.{IsNet, IsChanged}
use Rattle.wh_meaning.specs.Listing.{listed}
use Rattle.wh_meaning.proofs.BagLaws.{count-no_rows, count-with_row, tied_rows, bag_of_same}
use Rattle.wh_state.specs.State.{Rows}
use Rattle.wh_state.specs.Edits.{edits_from}
use Rattle.wh_moment.specs.Rebase.{KeptApart, without_row, gone_if, kept_apart, rebase}
use Rattle.wh_maintenance.proofs.Keys.{self_tied}
use Rattle.wh_refresh.proofs.WalkLaws.{count-without}

-- how often a row stands in a list with numbers
abbrev occurs : List (ℕ × Row) → Row → ℕ
occurs es row = count (bag_of (map (λ e. e.1) es)) row

abbrev tied : Row → Row → Bool
tied q row = eq_by_cmp row_cmp q row

module _ (passes : ℕ × Row → Bool) where
  abbrev kept : List (ℕ × Row) → List (ℕ × Row)
  kept es = filter passes es

  -- a row that doesn't pass goes at no number
  abbrev Stays : (Row → ℕ) → Type 0
  Stays goes = (e : ℕ × Row) → passes e ≡ false → goes e.1 ≡ 0

  -- a row that goes stands among the kept ones as often as among all
  kept_all : (goes : Row → ℕ) → Stays goes → (q : Row) → 0 < goes q → (es : List (ℕ × Row))
      → occurs (kept es) q ≡ occurs es q
  kept_all goes stays q some [] = refl
  kept_all goes stays q some (e ∷ es) = by_test (passes e) refl (kept_all goes stays q some es)
    where
      apart : passes e ≡ false → (t : Bool) → tied q e.1 ≡ t → (n : ℕ) → n ≡ cond t (suc n) n
      apart is true t n =
          absurd (omega (arith, some, subst (λ (r : Row). goes r ≡ 0) (sym (tied_rows q e.1 t)) (stays e is)))
      apart is false t n = refl

      by_test : (t : Bool) → passes e ≡ t → occurs (kept es) q ≡ occurs es q
          → occurs (cond t (e ∷ kept es) (kept es)) q ≡ occurs (e ∷ es) q
      by_test true is rest =
          count-with_row e.1 (bag_of (map (λ f. f.1) (kept es))) q
          ∙ ap (λ (n : ℕ). cond (tied q e.1) (suc n) n) rest
          ∙ sym (count-with_row e.1 (bag_of (map (λ f. f.1) es)) q)
      by_test false is rest =
          rest ∙ apart is (tied q e.1) refl (occurs es q) ∙ sym (count-with_row e.1 (bag_of (map (λ f. f.1) es)) q)

  -- of each row so many are left as stand there and come, less those that go
  abbrev Sums : Bag → (Row → ℕ) → (Row → ℕ) → List (ℕ × Row) → Type 0
  Sums left goes comes es = (q : Row) → count left q + goes q ≡ occurs es q + comes q

  abbrev AreApart : (Row → ℕ) → (Row → ℕ) → Type 0
  AreApart goes comes = (q : Row) → (goes q ≡ 0) ⊎ (comes q ≡ 0)

  abbrev Within : List (ℕ × Row) → Type 0
  Within es = (all some : Bag) (goes comes : Row → ℕ) → Stays goes → AreApart goes comes → Sums all goes comes es
      → Sums some goes comes (kept es) → kept_apart some (kept es) ≡ kept_apart all es

  one_less : (left : Bag) (goes comes : Row → ℕ) (e : ℕ × Row) (es : List (ℕ × Row)) → 0 < count left e.1
      → Sums left goes comes (e ∷ es) → Sums (without_row e.1 left) goes comes es
  one_less left goes comes e es some sums q =
      by_tie (tied q e.1) refl (count-without e.1 left q) (count-with_row e.1 (bag_of (map (λ f. f.1) es)) q)
    where
      by_tie : (t : Bool) → tied q e.1 ≡ t → count (without_row e.1 left) q ≡ cond t (count left q - 1) (count left q)
          → occurs (e ∷ es) q ≡ cond t (suc (occurs es q)) (occurs es q)
          → count (without_row e.1 left) q + goes q ≡ occurs es q + comes q
      by_tie true t less more =
          let here : 0 < count left q = subst (λ (r : Row). 0 < count left r) (sym (tied_rows q e.1 t)) some in
          let is = sums q in omega arith
      by_tie false t less more = let is = sums q in omega arith

  -- one of those that go less
  abbrev fewer : Row → (Row → ℕ) → Row → ℕ
  fewer row goes q = cond (tied q row) (goes q - 1) (goes q)

  one_gone : (left : Bag) (goes comes : Row → ℕ) (e : ℕ × Row) (es : List (ℕ × Row)) → count left e.1 ≡ 0
      → Sums left goes comes (e ∷ es) → Sums (without_row e.1 left) (fewer e.1 goes) comes es
  one_gone left goes comes e es none sums q =
      by_tie (tied q e.1) refl (count-without e.1 left q) (count-with_row e.1 (bag_of (map (λ f. f.1) es)) q)
    where
      by_tie : (t : Bool) → tied q e.1 ≡ t → count (without_row e.1 left) q ≡ cond t (count left q - 1) (count left q)
          → occurs (e ∷ es) q ≡ cond t (suc (occurs es q)) (occurs es q)
          → count (without_row e.1 left) q + cond t (goes q - 1) (goes q) ≡ occurs es q + comes q
      by_tie true t less more =
          let here : count left q ≡ 0 = subst (λ (r : Row). count left r ≡ 0) (sym (tied_rows q e.1 t)) none in
          let is = sums q in omega arith
      by_tie false t less more = let is = sums q in omega arith

  fewer_stays : (row : Row) (goes : Row → ℕ) → Stays goes → Stays (fewer row goes)
  fewer_stays row goes stays e is = by_tie (tied e.1 row) (stays e is)
    where
      by_tie : (t : Bool) → goes e.1 ≡ 0 → cond t (goes e.1 - 1) (goes e.1) ≡ 0
      by_tie true none = omega arith
      by_tie false none = none

  fewer_apart : (row : Row) (goes comes : Row → ℕ) → AreApart goes comes → AreApart (fewer row goes) comes
  fewer_apart row goes comes apart q = by_tie (tied q row) (apart q)
    where
      by_tie : (t : Bool) → (goes q ≡ 0) ⊎ (comes q ≡ 0) → (cond t (goes q - 1) (goes q) ≡ 0) ⊎ (comes q ≡ 0)
      by_tie true (inl none) = inl (omega arith)
      by_tie false (inl none) = inl none
      by_tie t (inr none) = inr none

  is_there : (b : Bag) (row : Row) (n : ℕ) → get b row ≡ Some n → 0 < count b row
  is_there b row n is = let n : count b row ≡ suc n = ap times is in omega arith

  is_gone : (b : Bag) (row : Row) → get b row ≡ None → count b row ≡ 0
  is_gone b row is = ap times is

  one_more : (e : ℕ × Row) (es : List (ℕ × Row)) → Within es → Within (e ∷ es)
  one_more e es rest all some goes comes stays apart sums fewer_sums =
      by_test (passes e) refl fewer_sums
    where
      here : occurs (e ∷ es) e.1 ≡ suc (occurs es e.1)
      here = count-with_row e.1 (bag_of (map (λ f. f.1) es)) e.1
          ∙ ap (λ (t : Bool). cond t (suc (occurs es e.1)) (occurs es e.1)) (self_tied e.1)

      kept_here : occurs (e ∷ kept es) e.1 ≡ suc (occurs (kept es) e.1)
      kept_here = count-with_row e.1 (bag_of (map (λ f. f.1) (kept es))) e.1
          ∙ ap (λ (t : Bool). cond t (suc (occurs (kept es) e.1)) (occurs (kept es) e.1)) (self_tied e.1)

      -- it is kept: it goes among all where it goes among the kept ones
      by_both : Sums some goes comes (e ∷ kept es) → (x y : Option ℕ) → get some e.1 ≡ x → get all e.1 ≡ y
          → gone_if (not (is_some x)) e.0 (kept_apart (without_row e.1 some) (kept es))
          ≡ gone_if (not (is_some y)) e.0 (kept_apart (without_row e.1 all) es)
      by_both sums' None None is at =
          ap (λ (k : KeptApart). gone_if true e.0 k) (rest (without_row e.1 all) (without_row e.1 some)
          (fewer e.1 goes) comes (fewer_stays e.1 goes stays) (fewer_apart e.1 goes comes apart)
          (one_gone all goes comes e es (is_gone all e.1 at) sums)
          (one_gone some goes comes e (kept es) (is_gone some e.1 is) sums'))
      by_both sums' (Some n) (Some m) is at =
          rest (without_row e.1 all) (without_row e.1 some) goes comes stays apart
          (one_less all goes comes e es (is_there all e.1 m at) sums)
          (one_less some goes comes e (kept es) (is_there some e.1 n is) sums')
      by_both sums' (Some n) None is at = absurd (no_less (apart e.1))
        where
          no_less : (goes e.1 ≡ 0) ⊎ (comes e.1 ≡ 0) → ⊥
          no_less (inl none) =
              let all_here = sums e.1 in let gone = is_gone all e.1 at in omega (arith, here, none)
          no_less (inr none) =
              let all_here = sums e.1 in let gone = is_gone all e.1 at in let kept_sum = sums' e.1 in
              let same = kept_all goes stays e.1 (omega (arith, here)) es in
              let there = is_there some e.1 n is in omega (arith, here, kept_here, none)
      by_both sums' None (Some m) is at = absurd (no_more (apart e.1))
        where
          no_more : (goes e.1 ≡ 0) ⊎ (comes e.1 ≡ 0) → ⊥
          no_more (inl none) =
              let kept_sum = sums' e.1 in let gone = is_gone some e.1 is in omega (arith, kept_here, none)
          no_more (inr none) =
              let kept_sum = sums' e.1 in let gone = is_gone some e.1 is in let all_here = sums e.1 in
              let same = kept_all goes stays e.1 (omega (arith, kept_here)) es in
              let there = is_there all e.1 m at in omega (arith, here, kept_here, none)

      -- it isn't: then it stays
      by_all : passes e ≡ false → Sums some goes comes (kept es) → (y : Option ℕ) → get all e.1 ≡ y
          → kept_apart some (kept es) ≡ gone_if (not (is_some y)) e.0 (kept_apart (without_row e.1 all) es)
      by_all is sums' None at =
          absurd (let all_here = sums e.1 in let gone = is_gone all e.1 at in let none = stays e is in
          omega (arith, here))
      by_all is sums' (Some m) at =
          rest (without_row e.1 all) some goes comes stays apart
          (one_less all goes comes e es (is_there all e.1 m at) sums) sums'

      by_test : (t : Bool) → passes e ≡ t → Sums some goes comes (cond t (e ∷ kept es) (kept es))
          → kept_apart some (cond t (e ∷ kept es) (kept es)) ≡ kept_apart all (e ∷ es)
      by_test true is sums' = by_both sums' (get some e.1) (get all e.1) refl refl
      by_test false is sums' = by_all is sums' (get all e.1) refl

  none_left : Within []
  none_left all some goes comes stays apart sums fewer_sums =
      ap (λ (left : Bag). kept_apart left []) (bag_of_same some all (λ q.
      let n = count-no_rows q in let a = sums q in let b = fewer_sums q in omega arith))

  apart_within : (es : List (ℕ × Row)) → Within es
  apart_within [] = none_left
  apart_within (e ∷ es) = one_more e es (apart_within es)

  pub rebase_within : (old rows : Rows) (new left plus minus : Bag) → entries rows ≡ filter passes (entries old)
      → ((e : ℕ × Row) → passes e ≡ false → count minus e.1 ≡ 0) → IsNet (bag_of (values old)) new plus minus
      → IsChanged (bag_of (values rows)) plus minus left → rebase rows left ≡ rebase old new
  unfolding rebase
  rebase_within old rows new left plus minus are stays net changed =
      ap (λ (k : KeptApart). edits_from k.gone [] (listed [] k.left)) (
      ap (kept_apart left) are
      ∙ apart_within (entries old) new left (count minus) (count plus) stays apart
      (λ q. let more = net.added q in let less = net.removed q in omega arith)
      (subst (λ (es : List (ℕ × Row)). Sums left (count minus) (count plus) es) are (λ q. changed q))
      )
    where
      apart : AreApart (count minus) (count plus)
      apart q = by_count (count minus q) refl
        where
          by_count : (n : ℕ) → count minus q ≡ n → (count minus q ≡ 0) ⊎ (count plus q ≡ 0)
          by_count zero is = inl is
          by_count (suc n) is = inr (let more = net.added q in let less = net.removed q in omega (arith, is))
