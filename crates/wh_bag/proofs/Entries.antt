-- The entries of the code's tree, and the bag that they are.
--     counted            the count of a row
--     emptied            no entry is no row
--     entered_after      the tree with a row written
--     raised             the tree with a row so often more
--     first_added        a row that isn't there yet
--     some_row           a bag that isn't empty has a row
use Rattle.std.specs.Prelude.{◌≡◌, ℕ, zero, suc, ◌+◌, ◌<◌, true, cond, List, [], ◌∷◌, length, Option, Some, None}
use Rattle.std.proofs.Common.{refl, sym, ap, ◌∙◌, arith}
use Rattle.std.specs.Ordering.{is_eq, eq_by_cmp}
use Rattle.std.specs.Cmp.{tied_itself}
use Rattle.std.specs.BTreeMap.{is_at}
use Rattle.std.specs.Map.{lookup}
use Rattle.std.specs.FinMap.{insert, entries, from_entries, find, get-entries, len-entries, empty_of_len}
use Rattle.wh_value.specs.Value.{Row, row_cmp}
use Rattle.wh_value.specs.Order.{row_total, row-IsAntisymmetric}
use Rattle.wh_meaning.specs.Bag.{Bag, no_rows, times, count, with_row, again}
use Rattle.wh_meaning.proofs.BagLaws.{bag_of_same, cond-same, count-no_rows, count-insert, count-again, tied_rows}
use Rattle.wh_meaning.proofs.KeyMaps.{gotten, map_after}
use Rattle.wh_bag.specs.Walk.{entered}

pub tied : (row : Row) → eq_by_cmp row_cmp row row ≡ true
tied row = ap is_eq (tied_itself row_total row)

-- what a tree has at a row
abbrev pub found_at : List (Row × ℕ) → Row → Option ℕ
found_at m q = lookup (is_at (row_cmp q)) m

-- a tree is another with a row written
abbrev pub IsWritten : List (Row × ℕ) → List (Row × ℕ) → Row → ℕ → Type 0
IsWritten m n row v = (q : Row) → found_at n q ≡ cond (is_eq (row_cmp row q)) (Some v) (found_at m q)

pub counted : (m : List (Row × ℕ)) (b : Bag) → from_entries m ≡ b → (q : Row) → times (found_at m q) ≡ count b q
counted m b is q = ap times (sym (gotten row_total m q)) ∙ ap (λ x. count x q) is

no_row : (m : List (Row × ℕ)) → from_entries m ≡ no_rows → length m ≡ 0
no_row [] e = refl
no_row (x ∷ m) e =
    let first : suc x.1 ≡ times (found_at (x ∷ m) x.0) =
    ap (λ t. times (cond t (Some x.1) (found_at m x.0))) (sym (tied x.0)) in
    let some : suc x.1 ≡ count no_rows x.0 = first ∙ counted (x ∷ m) no_rows e x.0 in
    let none = count-no_rows x.0 in
    absurd (omega arith)

no_entry : (m : List (Row × ℕ)) → length m ≡ 0 → from_entries m ≡ no_rows
no_entry [] e = refl
no_entry (x ∷ m) e = absurd (omega arith)

pub emptied : (m : List (Row × ℕ)) (b : Bag) → from_entries m ≡ b
    → (length m ≡ 0 → b ≡ no_rows) × (b ≡ no_rows → length m ≡ 0)
emptied m b is = (λ e. sym is ∙ no_entry m e, λ e. no_row m (is ∙ e))

module _ (m n : List (Row × ℕ)) (row : Row) (b : Bag) (is : from_entries m ≡ b) where
  inserted : (v : ℕ) → IsWritten m n row v → from_entries n ≡ insert b row v
  inserted v written = map_after row_total row-IsAntisymmetric m n row v written ∙ ap (λ x. insert x row v) is

  pub entered_after : (v many : ℕ) → suc v ≡ many → IsWritten m n row v → from_entries n ≡ entered row many b
  entered_after v many some written = inserted v written ∙ ap (λ k. entered row k b) some

  pub raised : (old more : ℕ) → Some old ≡ found_at m row → IsWritten m n row (more + old)
      → from_entries n ≡ again more (with_row row) b
  raised old more found written =
      let was : suc old ≡ count b row = ap times found ∙ counted m b is row in
      bag_of_same _ _ (λ q.
      ap (λ x. count x q) (inserted (more + old) written)
      ∙ count-insert row (more + old) b q
      ∙ cond-same _ _ _ _ (λ t. let here = ap (count b) (tied_rows q row t) in omega arith)
      ∙ sym (count-again row more b q))

entered_again : (row : Row) (many : ℕ) (b : Bag) → count b row ≡ 0
    → entered row many b ≡ again many (with_row row) b
entered_again row zero b none = refl
entered_again row (suc n) b none = bag_of_same _ _ (λ q.
    count-insert row n b q
    ∙ cond-same _ _ _ _ (λ t. let here = ap (count b) (tied_rows q row t) in omega arith)
    ∙ sym (count-again row (suc n) b q))

pub first_added : (m : List (Row × ℕ)) (b : Bag) → from_entries m ≡ b → (row : Row) (many : ℕ) (before after : Bag)
    → found_at m row ≡ None → before ≡ b → after ≡ entered row many before → after ≡ again many (with_row row) b
first_added m b is row many before after absent same made =
    made
    ∙ ap (entered row many) same
    ∙ entered_again row many b (sym (counted m b is row) ∙ ap times absent)

pub count-entries : (b : Bag) (q : Row) → times (find row_cmp q (entries b)) ≡ count b q
count-entries b q = ap times (sym (get-entries b q))

pub some_row : (b : Bag) → (b ≡ no_rows → ⊥) → (row : Row) × (0 < count b row)
some_row b some = elim (entries b) as (λ es. entries b ≡ es → (row : Row) × (0 < count b row)) [
  | [] ↦ λ e. absurd (some (empty_of_len b (len-entries b ∙ ap length e)))
  | e ∷ es ↦ λ is.
      let here : count b e.0 ≡ suc e.1 =
      sym (count-entries b e.0)
      ∙ ap (λ xs. times (find row_cmp e.0 xs)) is
      ∙ ap (λ t. times (cond t (Some e.1) (find row_cmp e.0 es))) (tied e.0) in
      (e.0, omega arith)
] refl
