-- The parts that only one of two lists has are a turn.
--     parts_turn
use Rattle.std.specs.Prelude.{◌≡◌, ℕ, ◌+◌, Bool, true, false, not, ◌||◌, cond, List, [], ◌∷◌, filter}
use Rattle.std.proofs.Common.{arith, refl, sym, ap, ◌∙◌}
use Rattle.wh_value.specs.Value.{Row}
use Rattle.wh_meaning.specs.Bag.{Bag, count}
use Rattle.wh_meaning.proofs.BagLaws.{bag_of_same, count-no_rows, count-plus}
use Rattle.wh_maintenance.specs.Turn.{IsTurn}
use Rattle.wh_maintenance.specs.Parts.{rows_of, has, only, IsDistinct, IsNaming, AgreesWith, AgreeWith}

abbrev sum_of : {K : Type 0} → (K → ℕ) → List K → ℕ
sum_of w [] = 0
sum_of w (k ∷ ks) = w k + sum_of w ks

abbrev weight : ℕ → Bool → ℕ
weight n t = cond t n 0

sum-filter : {K : Type 0} (w : K → ℕ) (t : K → Bool) (k : K) (ks : List K)
    → sum_of w (filter t (k ∷ ks)) ≡ weight (w k) (t k) + sum_of w (filter t ks)
sum-filter w t k ks = elim (t k) as (λ b. sum_of w (cond b (k ∷ filter t ks) (filter t ks))
    ≡ weight (w k) b + sum_of w (filter t ks)) [ true ↦ refl | false ↦ omega arith ]

split_weight : (n : ℕ) (b : Bool) → n ≡ weight n b + weight n (not b)
split_weight n true = omega arith
split_weight n false = omega arith

sum-parts : {K : Type 0} (w : K → ℕ) (t : K → Bool) (ks : List K)
    → sum_of w ks ≡ sum_of w (filter t ks) + sum_of w (filter (λ k. not (t k)) ks)
sum-parts w t [] = refl
sum-parts w t (k ∷ ks) =
    let l = sum-filter w t k ks in let r = sum-filter w (λ k. not (t k)) k ks in
    let s = split_weight (w k) (t k) in let ih = sum-parts w t ks in omega arith

nothing : {K : Type 0} (w : K → ℕ) (ks : List K) → sum_of w (filter (λ k. false) ks) ≡ 0
nothing w [] = refl
nothing w (k ∷ ks) = nothing w ks

module _ {K : Type 0} (same : K → K → Bool) (naming : IsNaming same) (rows : K → Bag) (q : Row) where
  abbrev w : K → ℕ
  w k = count (rows k) q

  alike-has : (xs : List K) (a b : K) → same a b ≡ true → has same xs a ≡ has same xs b
  alike-has [] a b e = refl
  alike-has (x ∷ xs) a b e =
      ap (λ t. t || has same xs a) (naming.alike a b e x) ∙ ap (λ t. same b x || t) (alike-has xs a b e)

  or_not : (a b : Bool) → a ≡ false → a || b ≡ b
  or_not true b e = cc
  or_not false b e = refl

  one_more : (x : K) (xs ys : List K) → has same xs x ≡ false → IsDistinct same ys → AgreesWith same rows x ys
      → sum_of w (filter (has same (x ∷ xs)) ys) ≡ weight (w x) (has same ys x) + sum_of w (filter (has same xs) ys)
  one_more x xs [] out h g = refl
  one_more x xs (y ∷ ys) out h g =
      let ih = one_more x xs ys out h.1 g.1 in
      let l = sum-filter w (has same (x ∷ xs)) y ys in
      let r = sum-filter w (has same xs) y ys in
      elim (same y x) as (λ t. same y x ≡ t → sum_of w (filter (has same (x ∷ xs)) (y ∷ ys))
      ≡ weight (w x) (has same (y ∷ ys) x) + sum_of w (filter (has same xs) (y ∷ ys))) [
        | true ↦ λ t.
            let is : w y ≡ w x = ap (λ b. count b q) (g.0 t) in
            let here : weight (w y) (has same (x ∷ xs) y) ≡ w x = ap (λ b. weight (w y) (b || has same xs y)) t ∙ is in
            let there : weight (w x) (has same (y ∷ ys) x) ≡ w x =
            ap (λ b. weight (w x) (b || has same ys x)) (naming.turned x y ∙ t) in
            let gone : weight (w y) (has same xs y) ≡ 0 = ap (weight (w y)) (alike-has xs y x t ∙ out) in
            let none : weight (w x) (has same ys x) ≡ 0 = ap (weight (w x)) (sym (alike-has ys y x t) ∙ h.0) in
            omega arith
        | false ↦ λ t.
            let here : weight (w y) (has same (x ∷ xs) y) ≡ weight (w y) (has same xs y) =
            ap (weight (w y)) (or_not (same y x) (has same xs y) t) in
            let there : weight (w x) (has same (y ∷ ys) x) ≡ weight (w x) (has same ys x) =
            ap (weight (w x)) (or_not (same x y) (has same ys x) (naming.turned x y ∙ t)) in
            omega arith
      ] refl

  shared : (xs ys : List K) → IsDistinct same xs → IsDistinct same ys → AgreeWith same rows xs ys
      → sum_of w (filter (has same ys) xs) ≡ sum_of w (filter (has same xs) ys)
  shared [] ys h k g = sym (nothing w ys)
  shared (x ∷ xs) ys h k g =
      let l = sum-filter w (has same ys) x xs in
      let r = one_more x xs ys h.0 k g.0 in
      let ih = shared xs ys h.1 k g.1 in
      omega arith

count-rows : {K : Type 0} (rows : K → Bag) (ks : List K) (q : Row)
    → count (rows_of rows ks) q ≡ sum_of (λ k. count (rows k) q) ks
count-rows rows [] q = count-no_rows q
count-rows rows (k ∷ ks) q = count-plus (rows k) (rows_of rows ks) q
    ∙ ap (λ n. count (rows k) q + n) (count-rows rows ks q)

pub parts_turn : {K : Type 0} (same : K → K → Bool) → IsNaming same → (rows : K → Bag) (old new : List K)
    → IsDistinct same old → IsDistinct same new → AgreeWith same rows old new
    → IsTurn (rows_of rows old) (rows_of rows new) (rows_of rows (only same new old)) (rows_of rows (only same old new))
parts_turn same naming rows old new h k g = record {
  stays = rows_of rows (filter (has same new) old);
  was = bag_of_same _ _ (λ q.
      let w = λ (k : _). count (rows k) q in
      let s = count-plus (rows_of rows (filter (has same new) old)) (rows_of rows (only same old new)) q in
      let a = count-rows rows old q in
      let b = count-rows rows (filter (has same new) old) q in
      let c = count-rows rows (only same old new) q in
      let p = sum-parts w (has same new) old in
      omega arith);
  is = bag_of_same _ _ (λ q.
      let w = λ (k : _). count (rows k) q in
      let s = count-plus (rows_of rows (filter (has same new) old)) (rows_of rows (only same new old)) q in
      let a = count-rows rows new q in
      let b = count-rows rows (filter (has same new) old) q in
      let c = count-rows rows (only same new old) q in
      let p = sum-parts w (has same old) new in
      let e = shared same naming rows q old new h k g in
      omega arith);
}
