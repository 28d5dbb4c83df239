-- The walk of an excess.
--     excess-turn     at a step
--     excess-is       where it ends
--     none-within, entered-within     no count on the way is too great
use Rattle.std.specs.Prelude.{◌≡◌, ℕ, zero, suc, ◌+◌, ◌-◌, ◌⊎◌, Bool, true, false, cond, T, List, [], ◌∷◌}
use Rattle.std.specs.Prelude.{Option, Some, None, ◌<◌, ◌^◌}
use Rattle.std.proofs.Common.{refl, sym, ap, subst, ◌∙◌, arith, inl, inr}
use Rattle.std.specs.Ordering.{eq_by_cmp}
use Rattle.std.specs.FinMap.Entries.{below_all}
use Rattle.std.specs.FinMap.{entries, entries_sorted, find, is_sorted}
use Rattle.wh_value.specs.Value.{Row, row_cmp}
use Rattle.wh_meaning.specs.Bag.{Bag, no_rows, times, count}
use Rattle.wh_meaning.specs.BagChange.{IsExcess, IsWithin}
use Rattle.wh_meaning.proofs.BagLaws.{count-no_rows, count-insert, tied_rows, find_below}
use Rattle.wh_value.proofs.TestLaws.{both_hold}
use Rattle.wh_bag.specs.Walk.{entered, excess}
use Rattle.wh_bag.proofs.Entries.{count-entries}

pub excess-turn : (other : Bag) (left : List (Row × ℕ)) (e : Row × ℕ) (es : List (Row × ℕ)) (b b' : Bag) (row : Row)
    (many : ℕ) → left ≡ e ∷ es → row ≡ e.0 → many ≡ suc e.1 - count other e.0 → b' ≡ entered row many b
    → excess other left b ≡ excess other es b'
unfolding excess
excess-turn other left e es b b' row many left_is row_is many_is made =
    ap (λ xs. excess other xs b) left_is
    ∙ ap (λ n. excess other es (entered e.0 n b)) (sym many_is)
    ∙ ap (λ r. excess other es (entered r many b)) (sym row_is)
    ∙ ap (excess other es) (sym made)

kept : (s : Bool) (n : ℕ) → (s ≡ true → n ≡ 0) → n ≡ cond s 0 n
kept true n none = none refl
kept false n none = refl

count-entered : (row : Row) (many : ℕ) (b : Bag) (q : Row) → (eq_by_cmp row_cmp q row ≡ true → count b q ≡ 0)
    → count (entered row many b) q ≡ cond (eq_by_cmp row_cmp q row) many (count b q)
count-entered row zero b q none = kept (eq_by_cmp row_cmp q row) (count b q) none
count-entered row (suc n) b q none = count-insert row n b q

-- the row isn't among the entries, or isn't in the bag yet
abbrev IsFresh : Option ℕ → ℕ → Type 0
IsFresh found there = (found ≡ None) ⊎ (there ≡ 0)

not_there : (n there : ℕ) → IsFresh (Some n) there → there ≡ 0
not_there n there (inl missing) = cc
not_there n there (inr none) = none

-- what is there of a row after the walk
abbrev count_after : Bag → Row → Option ℕ → ℕ → ℕ
count_after other q found there = (times found - count other q) + there

count-excess : (other : Bag) (es : List (Row × ℕ)) (b : Bag) (q : Row) → T (is_sorted row_cmp es)
    → IsFresh (find row_cmp q es) (count b q)
    → count (excess other es b) q ≡ count_after other q (find row_cmp q es) (count b q)
unfolding excess
count-excess other [] b q sorted fresh = omega arith
count-excess other (e ∷ es) b q sorted fresh =
    let many = suc e.1 - count other e.0 in
    let after = entered e.0 many b in
    let later : Option ℕ = find row_cmp q es in
    let rest_sorted : T (is_sorted row_cmp es) =
    (both_hold (below_all row_cmp e.0 es) (is_sorted row_cmp es) sorted).1 in
    elim (eq_by_cmp row_cmp q e.0) as (λ t. eq_by_cmp row_cmp q e.0 ≡ t → IsFresh (cond t (Some e.1) later) (count b q)
    → count (excess other es after) q ≡ count_after other q (cond t (Some e.1) later) (count b q)) [
      | true ↦ λ t fresh.
          let none : count b q ≡ 0 = not_there e.1 (count b q) fresh in
          let above : T (below_all row_cmp e.0 es) =
          (both_hold (below_all row_cmp e.0 es) (is_sorted row_cmp es) sorted).0 in
          let past : later ≡ None =
          find_below q es (subst (λ k. T (below_all row_cmp k es)) (sym (tied_rows q e.0 t)) above) in
          let now : count after q ≡ many =
          count-entered e.0 many b q (λ _. none) ∙ ap (λ s. cond s many (count b q)) t in
          let last : times later ≡ 0 = ap times past in
          let same : count other q ≡ count other e.0 = ap (count other) (tied_rows q e.0 t) in
          let rest : count (excess other es after) q ≡ count_after other q later (count after q) =
          count-excess other es after q rest_sorted (inl past) in
          omega arith
      | false ↦ λ f fresh.
          let now : count after q ≡ count b q =
          count-entered e.0 many b q (λ t. cc (f, t)) ∙ ap (λ s. cond s many (count b q)) f in
          count-excess other es after q rest_sorted (subst (IsFresh later) (sym now) fresh)
          ∙ ap (count_after other q later) now
    ] refl fresh

pub excess-is : (a other more : Bag) (left : List (Row × ℕ)) → left ≡ []
    → excess other (entries a) no_rows ≡ excess other left more → IsExcess a other more
unfolding excess
excess-is a other more left none walked q =
    let made : excess other (entries a) no_rows ≡ more = walked ∙ ap (λ xs. excess other xs more) none in
    let nothing = count-no_rows q in
    ap (λ b. count b q) (sym made)
    ∙ count-excess other (entries a) no_rows q (entries_sorted a) (inr nothing)
    ∙ ap (λ n. (n - count other q) + count no_rows q) (count-entries a q)
    ∙ omega arith

pub none-within : IsWithin no_rows
none-within q = let none = count-no_rows q in omega arith

pub entered-within : (row : Row) (many : ℕ) (b b' : Bag) → b' ≡ entered row many b → many < 2 ^ 64
    → IsWithin b → IsWithin b'
entered-within row zero b b' made fits within = subst IsWithin (sym made) within
entered-within row (suc n) b b' made fits within = subst IsWithin (sym made) (λ q.
    let was = within q in
    subst (λ k. k < 2 ^ 64) (sym (count-insert row n b q))
    (elim (eq_by_cmp row_cmp q row) as (λ t. cond t (suc n) (count b q) < 2 ^ 64) [ true ↦ fits | false ↦ was ]))
