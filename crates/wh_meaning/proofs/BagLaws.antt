-- The laws of bags.
--     fold_list, fold_bag_of     a fold of a listed bag is the fold of the list, where the operation's order is free
--     bag_of_same                equal counts make equal bags
--     count-..                   how often a row is in a bag that an operation gives
--     plus-.., no_rows-plus, bag_of-append     sums are associative and commutative, and nothing
--                                              is neutral; the sum of lists
--     restricted-..              the rows that meet a test
--     rows_of, bag_of-rows_of    each bag is that of a list
use Rattle.std.specs.Prelude.{◌≡◌, ℕ, length, filter, zero, suc, ◌+◌, ◌++◌, Bool, true, false, cond, T, ◌&&◌, List, []}
use Rattle.std.specs.Prelude.{◌∷◌, Option, Some, None}
use Rattle.std.proofs.Common.{arith, refl, sym, ap, subst, ◌∙◌}
use Rattle.std.proofs.lemmas.List.{nil_from_length}
use Rattle.std.specs.declared.cmp.Ordering.{Ordering}
use Rattle.std.specs.declared.cmp.Ordering.TheVariants.{Less, Equal, Greater}
use Rattle.std.specs.Ordering.{is_eq, is_lt, eq_by_cmp}
use Rattle.std.specs.FinMap.{entries, entries_sorted, entries-insert, get-entries, len-entries, len-empty, get, insert}
use Rattle.std.specs.FinMap.{get-empty, get-insert, get-retain_keys, same_map, find, put, is_sorted}
use Rattle.std.specs.FinMap.Entries.{below_all, by_order}
use Rattle.wh_value.specs.Value.{Row, row_cmp}
use Rattle.wh_value.specs.Order.{row_total, row-IsAntisymmetric}
use Rattle.wh_value.proofs.TestLaws.{both_hold, together, is-Equal}
use Rattle.wh_meaning.specs.Bag.{Bag, no_rows, times, count, with_row, bag_of, again, over_entries, fold_bag, one_row}
use Rattle.wh_meaning.specs.Bag.{plus, restricted}

abbrev pub fold_list : {A : Type 0} → (Row → A → A) → A → List Row → A
fold_list op z [] = z
fold_list op z (row ∷ rows) = op row (fold_list op z rows)

-- ---- entries in order

is-Less : (o : Ordering) → T (is_lt o) → o ≡ Less
is-Less Less h = refl
is-Less Equal h = absurd h
is-Less Greater h = absurd h

below_less : (x y : Row) (es : List (Row × ℕ)) → row_cmp x y ≡ Less → T (below_all row_cmp y es)
    → T (below_all row_cmp x es)
below_less x y [] p h = tt
below_less x y (e ∷ es) p h =
    together _ _ (subst (λ r. T (is_lt r)) (sym (row_total.trans x y e.0 p (is-Less _ (both_hold _ _ h).0))) tt)
    (below_less x y es p (both_hold _ _ h).1)

pub find_below : (q : Row) (es : List (Row × ℕ)) → T (below_all row_cmp q es) → find row_cmp q es ≡ None
find_below q [] h = refl
find_below q (e ∷ es) h = ap (λ r. cond (is_eq r) (Some e.1) (find row_cmp q es)) (is-Less _ (both_hold _ _ h).0)
    ∙ find_below q es (both_hold _ _ h).1

pub again-past : {A : Type 0} (f g : A → A) → ((x : A) → f (g x) ≡ g (f x)) → (n : ℕ) (x : A)
    → again n f (g x) ≡ g (again n f x)
again-past f g past zero x = refl
again-past f g past (suc n) x = ap f (again-past f g past n x) ∙ past (again n f x)

module _ {A : Type 0} (op : Row → A → A) (z : A) (free : (x y : Row) (a : A) → op x (op y a) ≡ op y (op x a)) where
  over-put : (row : Row) (es : List (Row × ℕ)) → T (is_sorted row_cmp es) →
      over_entries op z (put row_cmp row (times (find row_cmp row es)) es) ≡ op row (over_entries op z es)
  over-put row [] h = refl
  over-put row (e ∷ es) h =
      elim (row_cmp row e.0) as (λ r. row_cmp row e.0 ≡ r →
      over_entries op z (by_order r ((row, times (cond (is_eq r) (Some e.1) (find row_cmp row es))) ∷ e ∷ es)
      ((e.0, times (cond (is_eq r) (Some e.1) (find row_cmp row es))) ∷ es)
      (e ∷ put row_cmp row (times (cond (is_eq r) (Some e.1) (find row_cmp row es))) es))
      ≡ op row (over_entries op z (e ∷ es))) [
        | Less ↦ λ p. ap (λ (found : Option ℕ). again (suc (times found)) (op row) (over_entries op z (e ∷ es)))
            (find_below row es (below_less row e.0 es p (both_hold _ _ h).0))
        | Equal ↦ λ p. ap (λ k. op k (over_entries op z (e ∷ es))) (sym (row-IsAntisymmetric row e.0 p))
        | Greater ↦ λ p. ap (again (suc e.1) (op e.0)) (over-put row es (both_hold _ _ h).1)
            ∙ again-past (op e.0) (op row) (free e.0 row) (suc e.1) (over_entries op z es)
      ] refl

  pub fold-with_row : (row : Row) (b : Bag) → fold_bag op z (with_row row b) ≡ op row (fold_bag op z b)
  unfolding fold_bag
  fold-with_row row b =
      ap (over_entries op z) (entries-insert row_total b row (count b row)
      ∙ ap (λ found. put row_cmp row (times found) (entries b)) (get-entries b row))
      ∙ over-put row (entries b) (entries_sorted b)

pub fold-no_rows : {A : Type 0} (op : Row → A → A) (z : A) → fold_bag op z no_rows ≡ z
unfolding fold_bag
fold-no_rows op z =
    ap (over_entries op z) (nil_from_length (entries no_rows) (sym (len-entries no_rows) ∙ len-empty row_cmp ℕ))

pub fold_bag_of : {A : Type 0} (op : Row → A → A) (z : A) → ((x y : Row) (a : A) → op x (op y a) ≡ op y (op x a))
    → (rows : List Row)
    → fold_bag op z (bag_of rows) ≡ fold_list op z rows
fold_bag_of op z free [] = fold-no_rows op z
fold_bag_of op z free (row ∷ rows) = fold-with_row op z free row (bag_of rows)
    ∙ ap (op row) (fold_bag_of op z free rows)

-- ---- counts

times-is : (a b : Option ℕ) → times a ≡ times b → a ≡ b
times-is None None e = refl
times-is None (Some n) e = cc
times-is (Some n) None e = cc
times-is (Some n) (Some m) e = cc

pub bag_of_same : (a b : Bag) → ((row : Row) → count a row ≡ count b row) → a ≡ b
bag_of_same a b same = same_map row_total row-IsAntisymmetric a b (λ q. times-is _ _ (same q))

pub count-no_rows : (q : Row) → count no_rows q ≡ 0
count-no_rows q = ap times (get-empty row_cmp q)

times-cond : (t : Bool) (n : ℕ) (found : Option ℕ) → times (cond t (Some n) found) ≡ cond t (suc n) (times found)
times-cond true n found = refl
times-cond false n found = refl

pub cond-same : (t : Bool) (a b c : ℕ) → (t ≡ true → a ≡ b) → cond t a c ≡ cond t b c
cond-same true a b c e = e refl
cond-same false a b c e = refl

pub tied_rows : (q row : Row) → eq_by_cmp row_cmp q row ≡ true → q ≡ row
tied_rows q row t = row-IsAntisymmetric q row (is-Equal _ t)

pub count-insert : (row : Row) (n : ℕ) (b : Bag) (q : Row)
    → count (insert b row n) q ≡ cond (eq_by_cmp row_cmp q row) (suc n) (count b q)
count-insert row n b q = ap times (get-insert row_total b row n q) ∙ times-cond (eq_by_cmp row_cmp q row) n (get b q)

pub count-with_row : (row : Row) (b : Bag) (q : Row)
    → count (with_row row b) q ≡ cond (eq_by_cmp row_cmp q row) (suc (count b q)) (count b q)
count-with_row row b q =
    count-insert row (count b row) b q
    ∙ cond-same _ _ _ _ (λ t. ap (λ r. suc (count b r)) (sym (tied_rows q row t)))

swapped : (s t : Bool) (n : ℕ)
    → cond s (suc (cond t (suc n) n)) (cond t (suc n) n) ≡ cond t (suc (cond s (suc n) n)) (cond s (suc n) n)
swapped true true n = refl
swapped true false n = refl
swapped false true n = refl
swapped false false n = refl

pub with_row-with_row : (x y : Row) (b : Bag) → with_row x (with_row y b) ≡ with_row y (with_row x b)
with_row-with_row x y b = bag_of_same _ _ (λ q.
    count-with_row x (with_row y b) q
    ∙ ap (λ n. cond (eq_by_cmp row_cmp q x) (suc n) n) (count-with_row y b q)
    ∙ swapped (eq_by_cmp row_cmp q x) (eq_by_cmp row_cmp q y) (count b q)
    ∙ sym (ap (λ n. cond (eq_by_cmp row_cmp q y) (suc n) n) (count-with_row x b q))
    ∙ sym (count-with_row y (with_row x b) q))

pub count-again : (row : Row) (n : ℕ) (b : Bag) (q : Row)
    → count (again n (with_row row) b) q ≡ cond (eq_by_cmp row_cmp q row) (n + count b q) (count b q)
count-again row zero b q = elim (eq_by_cmp row_cmp q row)
    as (λ t. count b q ≡ cond t (0 + count b q) (count b q)) [ true ↦ omega arith | false ↦ refl ]
count-again row (suc n) b q =
    count-with_row row (again n (with_row row) b) q
    ∙ ap (λ m. cond (eq_by_cmp row_cmp q row) (suc m) m) (count-again row n b q)
    ∙ elim (eq_by_cmp row_cmp q row)
    as (λ t. cond t (suc (cond t (n + count b q) (count b q))) (cond t (n + count b q) (count b q))
    ≡ cond t (suc n + count b q) (count b q)) [ true ↦ omega arith | false ↦ refl ]

count-over : (b : Bag) (q : Row) (es : List (Row × ℕ)) → T (is_sorted row_cmp es)
    → count (over_entries with_row b es) q ≡ times (find row_cmp q es) + count b q
count-over b q [] h = omega arith
count-over b q (e ∷ es) h =
    count-again e.0 (suc e.1) (over_entries with_row b es) q
    ∙ ap (λ n. cond (eq_by_cmp row_cmp q e.0) (suc e.1 + n) n) (count-over b q es (both_hold _ _ h).1)
    ∙ elim (eq_by_cmp row_cmp q e.0)
    as (λ t. eq_by_cmp row_cmp q e.0 ≡ t → cond t (suc e.1 + (times (find row_cmp q es) + count b q))
    (times (find row_cmp q es) + count b q) ≡ times (cond t (Some e.1) (find row_cmp q es)) + count b q) [
      | true ↦ λ t. let none : find row_cmp q es
          ≡ None = find_below q es (subst (λ k. T (below_all row_cmp k es)) (sym (tied_rows q e.0 t))
          (both_hold _ _ h).0) in
          ap (λ found. suc e.1 + (times found + count b q)) none ∙ omega arith
      | false ↦ λ t. refl
    ] refl

pub count-plus : (a b : Bag) (q : Row) → count (plus a b) q ≡ count a q + count b q
unfolding fold_bag
count-plus a b q = count-over b q (entries a) (entries_sorted a)
    ∙ ap (λ found. times found + count b q) (sym (get-entries a q))

-- ---- sums of bags

pub plus-assoc : (a b c : Bag) → plus (plus a b) c ≡ plus a (plus b c)
plus-assoc a b c = bag_of_same _ _ (λ q. let ab = count-plus a b q in let bc = count-plus b c q in
    let l = count-plus (plus a b) c q in let r = count-plus a (plus b c) q in omega arith)

pub plus-comm : (a b : Bag) → plus a b ≡ plus b a
plus-comm a b = bag_of_same _ _ (λ q. let l = count-plus a b q in let r = count-plus b a q in omega arith)

pub no_rows-plus : (b : Bag) → plus no_rows b ≡ b
no_rows-plus b = fold-no_rows with_row b

pub plus-no_rows : (b : Bag) → plus b no_rows ≡ b
plus-no_rows b = plus-comm b no_rows ∙ no_rows-plus b

pub with_row-plus : (row : Row) (a b : Bag) → plus (with_row row a) b ≡ with_row row (plus a b)
with_row-plus row a b = fold-with_row with_row b with_row-with_row row a

pub one_row-plus : (row : Row) (b : Bag) → plus (one_row row) b ≡ with_row row b
one_row-plus row b = with_row-plus row no_rows b ∙ ap (with_row row) (no_rows-plus b)

pub bag_of-append : (xs ys : List Row) → bag_of (xs ++ ys) ≡ plus (bag_of xs) (bag_of ys)
bag_of-append [] ys = sym (no_rows-plus (bag_of ys))
bag_of-append (x ∷ xs) ys = ap (with_row x) (bag_of-append xs ys) ∙ sym (with_row-plus x (bag_of xs) (bag_of ys))

-- ---- the rows that meet a test

pub count-restricted : (test : Row → Bool) (b : Bag) (q : Row)
    → count (restricted test b) q ≡ cond (test q) (count b q) 0
count-restricted test b q =
    ap times (get-retain_keys b test q (λ x t. ap test (sym (row-IsAntisymmetric q x t))))
    ∙ elim (test q) as (λ t. times (cond t (get b q) None) ≡ cond t (count b q) 0) [ true ↦ refl | false ↦ refl ]

pub restricted-no_rows : (test : Row → Bool) → restricted test no_rows ≡ no_rows
restricted-no_rows test =
    bag_of_same _ _ (λ q. count-restricted test no_rows q ∙ ap (λ n. cond (test q) n 0) (count-no_rows q)
    ∙ elim (test q) as (λ t. ◌≡◌ {A = ℕ} (cond t 0 0) 0) [ true ↦ refl | false ↦ refl ] ∙ sym (count-no_rows q))

kept-row : (s t : Bool) (n : ℕ) → (t ≡ true → s ≡ true)
    → cond s (cond t (suc n) n) 0 ≡ cond t (suc (cond s n 0)) (cond s n 0)
kept-row true true n h = refl
kept-row true false n h = refl
kept-row false true n h = cc (h refl)
kept-row false false n h = refl

dropped-row : (s t : Bool) (n : ℕ) → (t ≡ true → s ≡ false) → cond s (cond t (suc n) n) 0 ≡ cond s n 0
dropped-row true true n h = cc (h refl)
dropped-row true false n h = refl
dropped-row false t n h = refl

pub restricted-with_row : (test : Row → Bool) (row : Row) (b : Bag)
    → restricted test (with_row row b) ≡ cond (test row) (with_row row (restricted test b)) (restricted test b)
restricted-with_row test row b = elim (test row) as (λ t. test row ≡ t
    → restricted test (with_row row b) ≡ cond t (with_row row (restricted test b)) (restricted test b)) [
      | true ↦ λ is. bag_of_same _ _ (λ q.
          count-restricted test (with_row row b) q
          ∙ ap (λ n. cond (test q) n 0) (count-with_row row b q)
          ∙ kept-row (test q) (eq_by_cmp row_cmp q row) (count b q) (λ t. ap test (tied_rows q row t) ∙ is)
          ∙ sym (count-with_row row (restricted test b) q
          ∙ ap (λ n. cond (eq_by_cmp row_cmp q row) (suc n) n) (count-restricted test b q)))
      | false ↦ λ is. bag_of_same _ _ (λ q.
          count-restricted test (with_row row b) q
          ∙ ap (λ n. cond (test q) n 0) (count-with_row row b q)
          ∙ dropped-row (test q) (eq_by_cmp row_cmp q row) (count b q) (λ t. ap test (tied_rows q row t) ∙ is)
          ∙ sym (count-restricted test b q))
    ] refl

pub restricted-bag_of : (test : Row → Bool) (rows : List Row)
    → restricted test (bag_of rows) ≡ bag_of (filter test rows)
restricted-bag_of test [] = restricted-no_rows test
restricted-bag_of test (row ∷ rows) =
    restricted-with_row test row (bag_of rows)
    ∙ ap (λ b. cond (test row) (with_row row b) b) (restricted-bag_of test rows)
    ∙ elim (test row) as (λ t. cond t (with_row row (bag_of (filter test rows))) (bag_of (filter test rows))
    ≡ bag_of (cond t (row ∷ filter test rows) (filter test rows))) [ true ↦ refl | false ↦ refl ]

-- ---- the rows of a bag

unfoldable pub rows_of : Bag → List Row
rows_of b = fold_bag (λ row rows. row ∷ rows) [] b

bag_of-again : (row : Row) (n : ℕ) (rows : List Row)
    → bag_of (again n (λ rest. row ∷ rest) rows) ≡ again n (with_row row) (bag_of rows)
bag_of-again row zero rows = refl
bag_of-again row (suc n) rows = ap (with_row row) (bag_of-again row n rows)

bag_of-over : (es : List (Row × ℕ))
    → bag_of (over_entries (λ row rows. row ∷ rows) [] es) ≡ over_entries with_row no_rows es
bag_of-over [] = refl
bag_of-over (e ∷ es) = bag_of-again e.0 (suc e.1) _ ∙ ap (again (suc e.1) (with_row e.0)) (bag_of-over es)

pub bag_of-rows_of : (b : Bag) → bag_of (rows_of b) ≡ b
unfolding rows_of fold_bag
bag_of-rows_of b = bag_of-over (entries b) ∙ plus-no_rows b
