-- Walks over rows.
--     stays_none, stays_gone, stays_kept     rows of which some go
--     stays_begun, gone_one, kept_one        the same as the code has them
--     net_left                               both sides of a change, each less the other, are its net
use Rattle.std.specs.Prelude.{◌≡◌, ℕ, suc, ◌-◌, ◌<◌, ◌≤◌, true, false, cond, List, [], ◌∷◌, ◌++◌}
use Rattle.std.proofs.Common.{arith, refl, sym, ap, subst, ◌∙◌}
use Rattle.std.specs.Ordering.{eq_by_cmp}
use Rattle.wh_value.specs.Value.{Row, row_cmp}
use Rattle.wh_meaning.specs.Bag.{Bag, no_rows, bag_of, with_row, count}
use Rattle.wh_meaning.specs.BagChange.{IsNet}
use Rattle.wh_meaning.proofs.BagLaws.{bag_of_same, count-no_rows, count-with_row, tied_rows, bag_of-append}
use Rattle.wh_meaning.proofs.BagLaws.{plus-comm, one_row-plus}
use Rattle.wh_maintenance.specs.Turn.{less}
use Rattle.wh_maintenance.proofs.Less.{count-less}
use Rattle.wh_maintenance.proofs.Delta.{net_of-net}
use Rattle.wh_delta.specs.Walk.{Stays}

pub count-behind : (rows : List Row) (row q : Row)
    → count (bag_of (rows ++ row ∷ [])) q
    ≡ cond (eq_by_cmp row_cmp q row) (suc (count (bag_of rows) q)) (count (bag_of rows) q)
count-behind rows row q =
    ap (λ b. count b q) (bag_of-append rows (row ∷ []) ∙ plus-comm (bag_of rows) (with_row row no_rows)
    ∙ one_row-plus row (bag_of rows))
    ∙ count-with_row row (bag_of rows) q

pub stays_none : (goes : Bag) → Stays goes [] [] no_rows
stays_none goes = record {
  rest = bag_of_same _ _ (λ q. let none = count-no_rows q in let e = count-less no_rows goes q in omega arith);
  gone = λ q. let none = count-no_rows q in omega arith;
}

by_left : (goes : Bag) (seen kept : List Row)
    → ((q : Row) → count (bag_of kept) q ≡ count (bag_of seen) q - count goes q) → bag_of kept ≡ less (bag_of seen) goes
by_left goes seen kept left = bag_of_same _ _ (λ q. left q ∙ sym (count-less (bag_of seen) goes q))

left_at : (goes : Bag) (seen kept : List Row) (met : Bag) → Stays goes seen kept met → (q : Row)
    → count (bag_of kept) q ≡ count (bag_of seen) q - count goes q
left_at goes seen kept met so q = ap (λ b. count b q) so.rest ∙ count-less (bag_of seen) goes q

pub stays_gone : (goes : Bag) (seen kept : List Row) (met met' : Bag) (row : Row) → Stays goes seen kept met
    → count met row < count goes row → met' ≡ with_row row met → Stays goes (seen ++ row ∷ []) kept met'
stays_gone goes seen kept met met' row so less made = record {
  rest = by_left goes (seen ++ row ∷ []) kept (λ q. let l = left_at goes seen kept met so q in let g = so.gone q in
      let b = count-behind seen row q in
      elim (eq_by_cmp row_cmp q row) as (λ t. eq_by_cmp row_cmp q row ≡ t
      → count (bag_of (seen ++ row ∷ [])) q ≡ cond t (suc (count (bag_of seen) q)) (count (bag_of seen) q)
      → count (bag_of kept) q ≡ count (bag_of (seen ++ row ∷ [])) q - count goes q) [
        | true ↦ λ t b. let m = ap (count met) (tied_rows q row t) in
            let g' = ap (count goes) (tied_rows q row t) in omega arith
        | false ↦ λ t b. omega arith
      ] refl b);
  gone = λ q. let l = left_at goes seen kept met so q in let g = so.gone q in let b = count-behind seen row q in
      let w : count met' q ≡ cond (eq_by_cmp row_cmp q row) (suc (count met q)) (count met q) =
      ap (λ x. count x q) made ∙ count-with_row row met q in
      elim (eq_by_cmp row_cmp q row) as (λ t. eq_by_cmp row_cmp q row ≡ t
      → count (bag_of (seen ++ row ∷ [])) q ≡ cond t (suc (count (bag_of seen) q)) (count (bag_of seen) q)
      → count met' q ≡ cond t (suc (count met q)) (count met q)
      → count met' q ≡ count (bag_of (seen ++ row ∷ [])) q - count (bag_of kept) q) [
        | true ↦ λ t b w. let m = ap (count met) (tied_rows q row t) in
            let g' = ap (count goes) (tied_rows q row t) in omega arith
        | false ↦ λ t b w. omega arith
      ] refl b w;
}

pub stays_kept : (goes : Bag) (seen kept : List Row) (met : Bag) (row : Row) → Stays goes seen kept met
    → count goes row ≤ count met row → Stays goes (seen ++ row ∷ []) (kept ++ row ∷ []) met
stays_kept goes seen kept met row so le = record {
  rest = by_left goes (seen ++ row ∷ []) (kept ++ row ∷ []) (λ q. let l = left_at goes seen kept met so q in
      let g = so.gone q in let b = count-behind seen row q in let k = count-behind kept row q in
      elim (eq_by_cmp row_cmp q row) as (λ t. eq_by_cmp row_cmp q row ≡ t
      → count (bag_of (seen ++ row ∷ [])) q ≡ cond t (suc (count (bag_of seen) q)) (count (bag_of seen) q)
      → count (bag_of (kept ++ row ∷ [])) q ≡ cond t (suc (count (bag_of kept) q)) (count (bag_of kept) q)
      → count (bag_of (kept ++ row ∷ [])) q ≡ count (bag_of (seen ++ row ∷ [])) q - count goes q) [
        | true ↦ λ t b k. let m = ap (count met) (tied_rows q row t) in
            let g' = ap (count goes) (tied_rows q row t) in omega arith
        | false ↦ λ t b k. omega arith
      ] refl b k);
  gone = λ q. let l = left_at goes seen kept met so q in let g = so.gone q in let b = count-behind seen row q in
      let k = count-behind kept row q in
      elim (eq_by_cmp row_cmp q row) as (λ t. eq_by_cmp row_cmp q row ≡ t
      → count (bag_of (seen ++ row ∷ [])) q ≡ cond t (suc (count (bag_of seen) q)) (count (bag_of seen) q)
      → count (bag_of (kept ++ row ∷ [])) q ≡ cond t (suc (count (bag_of kept) q)) (count (bag_of kept) q)
      → count met q ≡ count (bag_of (seen ++ row ∷ [])) q - count (bag_of (kept ++ row ∷ [])) q) [
        | true ↦ λ t b k. let m = ap (count met) (tied_rows q row t) in
            let g' = ap (count goes) (tied_rows q row t) in omega arith
        | false ↦ λ t b k. omega arith
      ] refl b k;
}

-- ---- as the code has them

pub stays_begun : (goes : Bag) (kept : List Row) (met : Bag) → kept ≡ [] → met ≡ no_rows → Stays goes [] kept met
stays_begun goes kept met k m =
    subst (λ rows. Stays goes [] rows met) (sym k) (subst (Stays goes [] []) (sym m) (stays_none goes))

pub gone_one : (goes : Bag) (seen kept : List Row) (met met' : Bag) (row : Row) (m g : ℕ) → m ≡ count met row
    → g ≡ count goes row → m < g → Stays goes seen kept met → met' ≡ with_row row met
    → Stays goes (seen ++ row ∷ []) kept met'
gone_one goes seen kept met met' row m g m_is g_is lt so made =
    stays_gone goes seen kept met met' row so (omega arith) made

pub kept_one : (goes : Bag) (seen kept kept' : List Row) (met : Bag) (row : Row) (m g : ℕ) → m ≡ count met row
    → g ≡ count goes row → g ≤ m → Stays goes seen kept met → kept' ≡ kept ++ row ∷ []
    → Stays goes (seen ++ row ∷ []) kept' met
kept_one goes seen kept kept' met row m g m_is g_is le so put =
    subst (λ rows. Stays goes (seen ++ row ∷ []) rows met) (sym put)
    (stays_kept goes seen kept met row so (omega arith))

pub net_left : (came gone : Bag) (comes goes : List Row) → bag_of comes ≡ less came gone → bag_of goes ≡ less gone came
    → IsNet gone came (bag_of comes) (bag_of goes)
net_left came gone comes goes c g =
    subst (λ b. IsNet gone came b (bag_of goes)) (sym c) (subst (IsNet gone came (less came gone)) (sym g)
    (net_of-net gone came))
