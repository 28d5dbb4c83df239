-- The keys of the rows of a bag.
--     rows_with_key        a key is there as often as rows have it
--     count-keys           the distinct keys have each key once
--     group_rows-gathered  the rows of groups, as what keys give together
--     gathered-within      what operations give that agree on the rows that are there
--     with_key-..          the rows of a key among those that meet a test
use Rattle.std.specs.Prelude.{◌≡◌, ℕ, zero, suc, Bool, true, false, cond, T, List, [], ◌∷◌, map, Option, Some, None}
use Rattle.std.specs.Prelude.{option_map}
use Rattle.std.proofs.Common.{arith, refl, sym, ap, subst, ◌∙◌}
use Rattle.std.specs.Ordering.{is_eq, eq_by_cmp}
use Rattle.std.specs.FinMap.{entries, entries_sorted, get-entries, keys, find, is_sorted}
use Rattle.std.specs.FinMap.Entries.{below_all}
use Rattle.std.specs.Cmp.{tied_itself}
use Rattle.wh_value.specs.Value.{Row, row_cmp}
use Rattle.wh_value.specs.Order.{row_total}
use Rattle.wh_meaning.specs.Scalar.{Scalar}
use Rattle.wh_meaning.specs.Bag.{Bag, no_rows, one_row, bag_of, times, count, with_row, plus, beside, gathered}
use Rattle.wh_meaning.specs.Bag.{restricted}
use Rattle.wh_meaning.specs.Query.{Call, values_on, image_by, projected, rows_in, is_row, with_key, group_row}
use Rattle.wh_meaning.specs.Query.{group_rows}
use Rattle.wh_meaning.proofs.BagLaws.{fold-no_rows, fold-with_row, bag_of_same, count-no_rows, count-with_row}
use Rattle.wh_value.proofs.TestLaws.{both_hold}
use Rattle.wh_meaning.proofs.BagLaws.{tied_rows}
use Rattle.wh_meaning.proofs.BagLaws.{find_below, one_row-plus, count-restricted, restricted-with_row}
use Rattle.wh_meaning.proofs.BagLaws.{restricted-no_rows}
use Rattle.wh_meaning.proofs.Gathered.{gathered-no_rows, gathered-with_row}
use Rattle.wh_moves.proofs.Gathering.{by_rows}

pub rows_in-no_rows : rows_in no_rows ≡ 0
rows_in-no_rows = fold-no_rows (λ row n. suc n) 0

pub rows_in-with_row : (row : Row) (b : Bag) → rows_in (with_row row b) ≡ suc (rows_in b)
rows_in-with_row row b = fold-with_row (λ row n. suc n) 0 (λ x y n. refl) row b

-- ---- how often a key is there

key_of_row : (by : List Scalar) (k row : Row) (b : Bag) (found : Option Row) → values_on by row ≡ found
    → (first rest : Option Bag) → first ≡ option_map one_row found → (keyed : Bag) → beside first rest ≡ Some keyed
    → ((keyed : Bag) → rest ≡ Some keyed → count keyed k ≡ rows_in (with_key by k b))
    → count keyed k ≡ rows_in (with_key by k (with_row row b))
key_of_row by k row b None is first rest f keyed e ih = let none : first ≡ None = f in
    let gone : ◌≡◌ {A = Option Bag} None (Some keyed) = ap (λ x. beside x rest) (sym none) ∙ e in cc
key_of_row by k row b (Some found) is None rest f keyed e ih = cc
key_of_row by k row b (Some found) is (Some one) None f keyed e ih = cc
key_of_row by k row b (Some found) is (Some one) (Some other) f keyed e ih =
    let one_is : one ≡ one_row found = cc in
    let all : keyed ≡ with_row found other = sym (let p : plus one other ≡ keyed = cc in p)
    ∙ ap (λ x. plus x other) one_is ∙ one_row-plus found other in
    let before = ih other refl in
    ap (λ x. count x k) all
    ∙ count-with_row found other k
    ∙ elim (eq_by_cmp row_cmp k found) as (λ t. eq_by_cmp row_cmp k found ≡ t
    → cond t (suc (count other k)) (count other k) ≡ rows_in (with_key by k (with_row row b))) [
      | true ↦ λ t.
          let meets : is_row k (values_on by row) ≡ true = ap (is_row k) is ∙ t in
          let made : with_key by k (with_row row b) ≡ with_row row (with_key by k b) =
          restricted-with_row (λ r. is_row k (values_on by r)) row b
          ∙ ap (λ s. cond s (with_row row (with_key by k b)) (with_key by k b)) meets in
          ap suc before ∙ sym (rows_in-with_row row (with_key by k b)) ∙ ap rows_in (sym made)
      | false ↦ λ t.
          let misses : is_row k (values_on by row) ≡ false = ap (is_row k) is ∙ t in
          let made : with_key by k (with_row row b) ≡ with_key by k b =
          restricted-with_row (λ r. is_row k (values_on by r)) row b
          ∙ ap (λ s. cond s (with_row row (with_key by k b)) (with_key by k b)) misses in
          before ∙ ap rows_in (sym made)
    ] refl

rows_with_key_list : (by : List Scalar) (k : Row) (rows : List Row) (keyed : Bag) → projected by (bag_of rows)
    ≡ Some keyed
    → count keyed k ≡ rows_in (with_key by k (bag_of rows))
rows_with_key_list by k [] keyed e =
    let none : no_rows ≡ keyed = let p : Some no_rows ≡ Some keyed = sym (gathered-no_rows (image_by by)) ∙ e in cc in
    ap (λ b. count b k) (sym none) ∙ count-no_rows k
    ∙ sym (ap rows_in (restricted-no_rows (λ r. is_row k (values_on by r))) ∙ rows_in-no_rows)
rows_with_key_list by k (row ∷ rows) keyed e =
    key_of_row by k row (bag_of rows) (values_on by row) refl (image_by by row) (projected by (bag_of rows)) refl keyed
    (sym (gathered-with_row (image_by by) row (bag_of rows)) ∙ e) (rows_with_key_list by k rows)

pub rows_with_key : (by : List Scalar) (k : Row) (b keyed : Bag) → projected by b ≡ Some keyed
    → count keyed k ≡ rows_in (with_key by k b)
rows_with_key by k =
    by_rows (λ b. (keyed : Bag) → projected by b ≡ Some keyed → count keyed k ≡ rows_in (with_key by k b))
    (rows_with_key_list by k)

-- ---- the distinct keys

abbrev pub once : ℕ → ℕ
once zero = 0
once (suc n) = 1

pub self_tied : (row : Row) → eq_by_cmp row_cmp row row ≡ true
self_tied row = ap is_eq (tied_itself row_total row)

first_time : (q : Row) (e : Row × ℕ) (es : List (Row × ℕ)) → T (below_all row_cmp e.0 es)
    → count (bag_of (map (λ e. e.0) es)) q ≡ once (times (find row_cmp q es))
    → count (bag_of (map (λ e. e.0) (e ∷ es))) q ≡ once (times (find row_cmp q (e ∷ es)))
first_time q e es below rest =
    count-with_row e.0 (bag_of (map (λ e. e.0) es)) q
    ∙ ap (λ n. cond (eq_by_cmp row_cmp q e.0) (suc n) n) rest
    ∙ elim (eq_by_cmp row_cmp q e.0) as (λ t. eq_by_cmp row_cmp q e.0 ≡ t
    → cond t (suc (once (times (find row_cmp q es)))) (once (times (find row_cmp q es)))
    ≡ once (times (cond t (Some e.1) (find row_cmp q es)))) [
      | true ↦ λ t. ap (λ found. suc (once (times found)))
          (find_below q es (subst (λ k. T (below_all row_cmp k es)) (sym (tied_rows q e.0 t)) below))
      | false ↦ λ t. refl
    ] refl

count-firsts : (q : Row) (es : List (Row × ℕ)) → T (is_sorted row_cmp es)
    → count (bag_of (map (λ e. e.0) es)) q ≡ once (times (find row_cmp q es))
count-firsts q [] h = count-no_rows q
count-firsts q (e ∷ es) h = first_time q e es (both_hold _ _ h).0 (count-firsts q es (both_hold _ _ h).1)

pub count-keys : (b : Bag) (q : Row) → count (bag_of (keys b)) q ≡ once (count b q)
count-keys b q = count-firsts q (entries b) (entries_sorted b)
    ∙ ap (λ found. once (times found)) (sym (get-entries b q))

pub group_rows-gathered : (by : List Scalar) (calls : List Call) (b : Bag) (ks : List Row)
    → group_rows by calls b ks ≡ gathered (group_row by calls b) (bag_of ks)
group_rows-gathered by calls b [] = sym (gathered-no_rows (group_row by calls b))
group_rows-gathered by calls b (k ∷ ks) =
    ap (beside (group_row by calls b k)) (group_rows-gathered by calls b ks)
    ∙ sym (gathered-with_row (group_row by calls b) k (bag_of ks))

-- ---- on the rows that are there

within_list : (f g : Row → Option Bag) (rows : List Row)
    → ((row : Row) → (count (bag_of rows) row ≡ 0 → ⊥) → f row ≡ g row)
    → gathered f (bag_of rows) ≡ gathered g (bag_of rows)
within_list f g [] same = gathered-no_rows f ∙ sym (gathered-no_rows g)
within_list f g (row ∷ rows) same =
    let here : count (bag_of (row ∷ rows)) row ≡ suc (count (bag_of rows) row) =
    count-with_row row (bag_of rows) row
    ∙ ap (λ t. cond t (suc (count (bag_of rows) row)) (count (bag_of rows) row)) (self_tied row) in
    let rest : gathered f (bag_of rows) ≡ gathered g (bag_of rows) = within_list f g rows (λ q some. same q (λ none.
    let more = count-with_row row (bag_of rows) q in
    elim (eq_by_cmp row_cmp q row) as (λ t. count (bag_of (row ∷ rows)) q
    ≡ cond t (suc (count (bag_of rows) q)) (count (bag_of rows) q) → ⊥) [
      | true ↦ λ h. omega arith
      | false ↦ λ h. some (sym h ∙ none)
    ] more)) in
    gathered-with_row f row (bag_of rows)
    ∙ ap (λ a. beside a (gathered f (bag_of rows))) (same row (λ none. omega arith))
    ∙ ap (beside (g row)) rest
    ∙ sym (gathered-with_row g row (bag_of rows))

pub gathered-within : (f g : Row → Option Bag) (b : Bag) → ((row : Row) → (count b row ≡ 0 → ⊥) → f row ≡ g row)
    → gathered f b ≡ gathered g b
gathered-within f g = by_rows (λ b. ((row : Row) → (count b row ≡ 0 → ⊥) → f row ≡ g row) → gathered f b ≡ gathered g b)
    (within_list f g)

-- ---- the rows of a key among those that meet a test

both_tests : (s t : Bool) (n : ℕ) → (s ≡ true → t ≡ true) → cond s (cond t n 0) 0 ≡ cond s n 0
both_tests true true n h = refl
both_tests true false n h = cc (h refl)
both_tests false t n h = refl

neither_test : (s t : Bool) (n : ℕ) → (s ≡ true → t ≡ false) → cond s (cond t n 0) 0 ≡ 0
neither_test true true n h = cc (h refl)
neither_test true false n h = refl
neither_test false t n h = refl

pub with_key-kept : (by : List Scalar) (k : Row) (test : Row → Bool) (b : Bag)
    → ((row : Row) → is_row k (values_on by row) ≡ true → test row ≡ true)
    → with_key by k (restricted test b) ≡ with_key by k b
with_key-kept by k test b meets = bag_of_same _ _ (λ q.
    count-restricted (λ row. is_row k (values_on by row)) (restricted test b) q
    ∙ ap (λ n. cond (is_row k (values_on by q)) n 0) (count-restricted test b q)
    ∙ both_tests (is_row k (values_on by q)) (test q) (count b q) (meets q)
    ∙ sym (count-restricted (λ row. is_row k (values_on by row)) b q))

pub with_key-dropped : (by : List Scalar) (k : Row) (test : Row → Bool) (b : Bag)
    → ((row : Row) → is_row k (values_on by row) ≡ true → test row ≡ false)
    → with_key by k (restricted test b) ≡ no_rows
with_key-dropped by k test b meets = bag_of_same _ _ (λ q.
    count-restricted (λ row. is_row k (values_on by row)) (restricted test b) q
    ∙ ap (λ n. cond (is_row k (values_on by q)) n 0) (count-restricted test b q)
    ∙ neither_test (is_row k (values_on by q)) (test q) (count b q) (meets q)
    ∙ sym (count-no_rows q))

pub key_is : (k : Row) (found : Option Row) → is_row k found ≡ true → found ≡ Some k
key_is k None h = cc
key_is k (Some row) h = ap Some (sym (tied_rows k row h))
