-- The walk of a sum.
--     sum-turn     at a step
--     sum-is       where it ends
--     sum-full     where a count is too great
--     sum-within   where none is
use Rattle.std.specs.Prelude.{◌≡◌, ℕ, zero, suc, ◌+◌, ◌^◌, ◌<◌, ◌≤◌, Result, Ok, Err, true, false, cond, List, [], ◌∷◌}
use Rattle.std.proofs.Common.{refl, sym, ap, subst, ◌∙◌, arith}
use Rattle.std.specs.Ordering.{eq_by_cmp}
use Rattle.std.specs.FinMap.{entries}
use Rattle.wh_value.specs.Value.{Row, row_cmp}
use Rattle.wh_meaning.specs.Bag.{Bag, count, with_row, again, over_entries, fold_bag, plus}
use Rattle.wh_meaning.specs.BagChange.{IsWithin}
use Rattle.wh_meaning.proofs.BagLaws.{tied_rows, again-past, count-again, count-plus, with_row-with_row}
use Rattle.wh_bag.specs.declared.fault.AddFault.{AddFault}
use Rattle.wh_bag.specs.declared.fault.AddFault.TheVariants.{TooMany}
use Rattle.wh_bag.proofs.Entries.{tied}

-- the entries added
abbrev pub summed : Bag → List (Row × ℕ) → Bag
summed = over_entries with_row

again-again : (x y : Row) (n k : ℕ) (b : Bag)
    → again n (with_row x) (again k (with_row y) b) ≡ again k (with_row y) (again n (with_row x) b)
again-again x y n zero b = refl
again-again x y n (suc k) b =
    again-past (with_row x) (with_row y) (with_row-with_row x y) n (again k (with_row y) b)
    ∙ ap (with_row y) (again-again x y n k b)

summed-past : (row : Row) (k : ℕ) (es : List (Row × ℕ)) (b : Bag)
    → again k (with_row row) (summed b es) ≡ summed (again k (with_row row) b) es
summed-past row k [] b = refl
summed-past row k (e ∷ es) b =
    again-again row e.0 k (suc e.1) (summed b es) ∙ ap (again (suc e.1) (with_row e.0)) (summed-past row k es b)

pub sum-turn : (left : List (Row × ℕ)) (e : Row × ℕ) (es : List (Row × ℕ)) (b b' : Bag) (row : Row) (many : ℕ)
    → left ≡ e ∷ es → row ≡ e.0 → many ≡ suc e.1 → b' ≡ again many (with_row row) b → summed b left ≡ summed b' es
sum-turn left e es b b' row many left_is row_is many_is made =
    ap (summed b) left_is
    ∙ summed-past e.0 (suc e.1) es b
    ∙ ap (λ n. summed (again n (with_row e.0) b) es) (sym many_is)
    ∙ ap (λ r. summed (again many (with_row r) b) es) (sym row_is)
    ∙ ap (λ x. summed x es) (sym made)

pub sum-is : (a b made : Bag) (left : List (Row × ℕ)) → left ≡ [] → summed b (entries a) ≡ summed made left
    → made ≡ plus a b
unfolding fold_bag
sum-is a b made left none walked = sym (walked ∙ ap (summed made) none)

-- ---- no count falls

grows : (row : Row) (k : ℕ) (b : Bag) (q : Row) → count b q ≤ count (again k (with_row row) b) q
grows row k b q =
    subst (λ n. count b q ≤ n) (sym (count-again row k b q))
    (elim (eq_by_cmp row_cmp q row) as (λ t. count b q ≤ cond t (k + count b q) (count b q)) [
      | true ↦ omega arith
      | false ↦ omega arith
    ])

summed-grows : (es : List (Row × ℕ)) (b : Bag) (q : Row) → count b q ≤ count (summed b es) q
summed-grows [] b q = omega arith
summed-grows (e ∷ es) b q =
    let rest = summed-grows es b q in
    let here = grows e.0 (suc e.1) (summed b es) q in
    omega arith

passed : (e : Row × ℕ) (es : List (Row × ℕ)) (b : Bag) → count b e.0 + suc e.1 ≤ count (summed b (e ∷ es)) e.0
passed e es b =
    let there = count (summed b es) e.0 in
    let whole : count (summed b (e ∷ es)) e.0 ≡ suc e.1 + there =
    count-again e.0 (suc e.1) (summed b es) e.0 ∙ ap (λ t. cond t (suc e.1 + there) there) (tied e.0) in
    let rest = summed-grows es b e.0 in
    omega arith

pub sum-full : (a b0 b : Bag) (left : List (Row × ℕ)) (e : Row × ℕ) (es : List (Row × ℕ)) (row : Row) (many bound : ℕ)
    → left ≡ e ∷ es → row ≡ e.0 → many ≡ suc e.1 → summed b0 (entries a) ≡ summed b left
    → bound ≤ count b row + many → (q : Row) × (bound ≤ count b0 q + count a q)
unfolding fold_bag
sum-full a b0 b left e es row many bound left_is row_is many_is walked over =
    let whole : count (summed b0 (entries a)) e.0 ≡ count (summed b (e ∷ es)) e.0 =
    ap (λ x. count x e.0) (walked ∙ ap (summed b) left_is) in
    let sum : count (summed b0 (entries a)) e.0 ≡ count a e.0 + count b0 e.0 = count-plus a b0 e.0 in
    let here : count b row ≡ count b e.0 = ap (count b) row_is in
    let rest = passed e es b in
    (e.0, omega arith)

again-within : (row : Row) (many : ℕ) (b : Bag) → (2 ^ 64 ≤ count b row + many → ⊥) → IsWithin b
    → IsWithin (again many (with_row row) b)
again-within row many b fits within q =
    let was = within q in
    subst (λ k. k < 2 ^ 64) (sym (count-again row many b q))
    (elim (eq_by_cmp row_cmp q row) as (λ t. eq_by_cmp row_cmp q row ≡ t
    → cond t (many + count b q) (count b q) < 2 ^ 64) [
      | true ↦ λ t. let here = ap (count b) (tied_rows q row t) in omega (arith, fits)
      | false ↦ λ _. was
    ] refl)

pub sum-within : {A : Type 0} (done : A) (row : Row) (many : ℕ) (b b' : Bag) → b' ≡ again many (with_row row) b
    → (2 ^ 64 ≤ count b row + many → ◌≡◌ {A = Result A AddFault} (Ok done) (Err TooMany)) → IsWithin b → IsWithin b'
sum-within done row many b b' made full within =
    subst IsWithin (sym made) (again-within row many b (λ over. cc (full over)) within)
