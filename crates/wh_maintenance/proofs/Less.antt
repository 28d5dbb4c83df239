-- How often a row is in what a bag has more than another.
use Rattle.std.specs.Prelude.{◌≡◌, ℕ, zero, suc, ◌-◌, Bool, true, false, cond, List, [], ◌∷◌, None}
use Rattle.std.proofs.Common.{arith, refl, sym, ap, ◌∙◌}
use Rattle.std.specs.Ordering.{eq_by_cmp}
use Rattle.std.specs.FinMap.{get, get-remove}
use Rattle.wh_value.specs.Value.{Row, row_cmp}
use Rattle.wh_value.specs.Order.{row_total}
use Rattle.wh_meaning.specs.Bag.{Bag, bag_of, times, count, fold_bag}
use Rattle.wh_meaning.proofs.BagLaws.{bag_of_same, count-no_rows, count-insert, count-with_row, cond-same, tied_rows}
use Rattle.wh_meaning.proofs.BagLaws.{fold_list, fold_bag_of, rows_of, bag_of-rows_of}
use Rattle.wh_maintenance.specs.Turn.{lowered, without_row, less}

times-gone : (t : Bool) (b : Bag) (q : Row) → times (cond t None (get b q)) ≡ cond t 0 (count b q)
times-gone true b q = refl
times-gone false b q = refl

count-lowered : (row : Row) (n : ℕ) (b : Bag) (q : Row) → count b row ≡ n
    → count (lowered row n b) q ≡ cond (eq_by_cmp row_cmp q row) (n - 1) (count b q)
count-lowered row zero b q is = elim (eq_by_cmp row_cmp q row) as (λ t. eq_by_cmp row_cmp q row ≡ t
    → count b q ≡ cond t (0 - 1) (count b q)) [
      | true ↦ λ t. let here = ap (count b) (tied_rows q row t) in omega arith
      | false ↦ λ t. refl
    ] refl
count-lowered row (suc zero) b q is =
    ap times (get-remove row_total b row q) ∙ times-gone (eq_by_cmp row_cmp q row) b q
count-lowered row (suc (suc n)) b q is = let one : suc n ≡ suc (suc n) - 1 = omega arith in
    count-insert row n b q ∙ ap (λ m. cond (eq_by_cmp row_cmp q row) m (count b q)) one

pub count-without_row : (row : Row) (b : Bag) (q : Row)
    → count (without_row row b) q ≡ cond (eq_by_cmp row_cmp q row) (count b q - 1) (count b q)
count-without_row row b q =
    count-lowered row (count b row) b q refl
    ∙ cond-same _ _ _ _ (λ t. ap (λ r. count b r - 1) (sym (tied_rows q row t)))

turned : (s t : Bool) (n : ℕ)
    → cond s (cond t (n - 1) n - 1) (cond t (n - 1) n) ≡ cond t (cond s (n - 1) n - 1) (cond s (n - 1) n)
turned true true n = refl
turned true false n = refl
turned false true n = refl
turned false false n = refl

without-turned : (x y : Row) (b : Bag) → without_row x (without_row y b) ≡ without_row y (without_row x b)
without-turned x y b = bag_of_same _ _ (λ q.
    count-without_row x (without_row y b) q
    ∙ ap (λ n. cond (eq_by_cmp row_cmp q x) (n - 1) n) (count-without_row y b q)
    ∙ turned (eq_by_cmp row_cmp q x) (eq_by_cmp row_cmp q y) (count b q)
    ∙ sym (ap (λ n. cond (eq_by_cmp row_cmp q y) (n - 1) n) (count-without_row x b q))
    ∙ sym (count-without_row y (without_row x b) q))

count-less_list : (a : Bag) (rows : List Row) (q : Row)
    → count (fold_list without_row a rows) q ≡ count a q - count (bag_of rows) q
count-less_list a [] q = let none = count-no_rows q in omega arith
count-less_list a (row ∷ rows) q =
    let rest = count-less_list a rows q in
    let here = count-without_row row (fold_list without_row a rows) q in
    let more = count-with_row row (bag_of rows) q in
    elim (eq_by_cmp row_cmp q row) as (λ t.
    count (fold_list without_row a (row ∷ rows)) q
    ≡ cond t (count (fold_list without_row a rows) q - 1) (count (fold_list without_row a rows) q)
    → count (bag_of (row ∷ rows)) q ≡ cond t (suc (count (bag_of rows) q)) (count (bag_of rows) q)
    → count (fold_list without_row a (row ∷ rows)) q ≡ count a q - count (bag_of (row ∷ rows)) q) [
      | true ↦ λ h m. omega arith
      | false ↦ λ h m. omega arith
    ] here more

pub count-less : (a b : Bag) (q : Row) → count (less a b) q ≡ count a q - count b q
unfolding less
count-less a b q =
    ap (λ c. count (fold_bag without_row a c) q) (sym (bag_of-rows_of b))
    ∙ ap (λ c. count c q) (fold_bag_of without_row a without-turned (rows_of b))
    ∙ count-less_list a (rows_of b) q
    ∙ ap (λ c. count a q - count c q) (bag_of-rows_of b)
