-- Kept groups: what stands at each key after rows came and rows went.
--     groups-moved       the groups of the bag afterwards
--     grouped-shown      the rows of the groups of some keys
--     shown-carried      the change of the group rows, from the groups before and afterwards
--     none_moved         where a row that comes has no argument, the groups have no rows afterwards
use Rattle.std.specs.Prelude.{◌≡◌, not, ℕ, zero, suc, pos, cond, List, [], ◌∷◌, ◌++◌, Option, Some, None, option_map}
use Rattle.std.proofs.Common.{arith, refl, sym, ap, subst, ◌∙◌, inl, inr}
use Rattle.std.specs.FinMap.{get, keys}
use Rattle.wh_value.specs.Value.{Row}
use Rattle.wh_meaning.specs.Scalar.{Scalar, of_one, of_two}
use Rattle.wh_meaning.specs.Bag.{Bag, no_rows, one_row, bag_of, plus, count, beside, gathered, restricted}
use Rattle.wh_meaning.specs.Query.{Call, Sum, CountRows, Count, Total, values_on, image_by, projected, rows_in}
use Rattle.wh_meaning.specs.Query.{is_row, with_key, group_row, grouped}
use Rattle.wh_meaning.proofs.BagLaws.{bag_of_same, count-plus, count-restricted}
use Rattle.wh_meaning.proofs.Gathered.{gathered-plus, gathered-no_rows, gathered-with_row, beside-nothing}
use Rattle.wh_maintenance.specs.Turn.{IsTurn}
use Rattle.wh_maintenance.specs.Carried.{Change, sided, IsCarried}
use Rattle.wh_maintenance.specs.Delta.{is_some_of, is_among, key_among, with_keys}
use Rattle.wh_maintenance.specs.Standing.{Standing, no_sum, before, calls_total, standing, moved, answers}
use Rattle.wh_maintenance.specs.Standing.{nothing_yet, begun, Groups}
use Rattle.wh_maintenance.specs.Standing.{IsStandingOf, IsGroupsOf, standing_at, left_by, IsMoved, IsMovedAt, shown}
use Rattle.wh_maintenance.proofs.Turns.{restricted-turn}
use Rattle.wh_maintenance.proofs.Sides.{beside_there}
use Rattle.wh_moves.proofs.Gathering.{by_rows}
use Rattle.wh_maintenance.proofs.Keys.{rows_in-no_rows, rows_in-with_row, rows_with_key, once, count-keys}
use Rattle.wh_maintenance.proofs.Keys.{gathered-within}
use Rattle.wh_maintenance.proofs.Group.{apart_from, gathered-parts, among_by_key, missed, grouped-carried, one_part}
use Rattle.wh_maintenance.proofs.Totals.{total_of-no_rows, standing-moved, calls_over-answers}

empty_list : (rows : List Row) → rows_in (bag_of rows) ≡ 0 → bag_of rows ≡ no_rows
empty_list [] e = refl
empty_list (row ∷ rows) e = let m = rows_in-with_row row (bag_of rows) in absurd (omega arith)

pub empty_bag : (b : Bag) → rows_in b ≡ 0 → b ≡ no_rows
empty_bag = by_rows (λ b. rows_in b ≡ 0 → b ≡ no_rows) empty_list

begun-total : (calls : List Call) → calls_total no_rows calls ≡ Some (begun calls)
begun-total [] = refl
begun-total (Sum e ∷ calls) = ap (λ t. of_two before t (calls_total no_rows calls)) (total_of-no_rows e)
    ∙ ap (of_two before (Some nothing_yet)) (begun-total calls)
begun-total (CountRows ∷ calls) = ap (λ n. of_two before (Some (record { sum = pos 0; values = n }))
    (calls_total no_rows calls)) rows_in-no_rows
    ∙ ap (of_two before (Some nothing_yet)) (begun-total calls)
begun-total (Count e ∷ calls) = ap (λ t. of_two before (option_map no_sum t) (calls_total no_rows calls))
    (total_of-no_rows e)
    ∙ ap (of_two before (Some nothing_yet)) (begun-total calls)

pub standing-none : (calls : List Call) → standing calls no_rows ≡ Some (record { rows = 0; totals = begun calls })
standing-none calls = ap (option_map (λ totals. record { rows = rows_in no_rows; totals = totals })) (begun-total calls)
    ∙ ap (λ n. Some (record { rows = n; totals = begun calls })) rows_in-no_rows

stood : (calls : List Call) (b : Bag) (found : Option Standing) → IsStandingOf calls found b
    → standing calls b ≡ Some (standing_at calls found)
stood calls b None h = ap (standing calls) (empty_bag b h) ∙ standing-none calls
stood calls b (Some s) h = h.1

rows_of_standing : (calls : List Call) (b : Bag) (found : Option (List Total)) (s : Standing)
    → option_map (λ totals. record { rows = rows_in b; totals = totals }) found ≡ Some s → s.rows ≡ rows_in b
rows_of_standing calls b None s e = cc
rows_of_standing calls b (Some ts) s e = let is : record { rows = rows_in b; totals = ts } ≡ s = cc in
    sym (ap (λ (x : Standing). x.rows) is)

stands : (calls : List Call) (b : Bag) (n : ℕ) (s : Standing) → rows_in b ≡ n → standing calls b ≡ Some s
    → IsStandingOf calls (left_by n s) b
stands calls b zero s r e = r
stands calls b (suc n) s r e = (λ none. cc (r, none), e)

stands_moved : (calls : List Call) (old new : Bag) (c : Change) → IsTurn old new c.comes c.goes
    → (was now came went : Option Standing) → standing calls c.comes ≡ came → standing calls c.goes ≡ went
    → IsStandingOf calls was old → IsMoved calls was came went now → IsStandingOf calls now new
stands_moved calls old new c turn was now None went f g h m = absurd m
stands_moved calls old new c turn was now (Some came) None f g h m = absurd m
stands_moved calls old new c turn was now (Some came) (Some went) f g h m =
    let s : Standing = moved (standing_at calls was) came went in
    let is : standing calls new ≡ Some s =
    standing-moved old new c turn calls (standing_at calls was) (stood calls old was h)
    ∙ ap (λ x. of_two (λ c w. Some (moved (standing_at calls was) c w)) x (standing calls c.goes)) f
    ∙ ap (λ x. of_two (λ c w. Some (moved (standing_at calls was) c w)) (Some came) x) g in
    subst (λ x. IsStandingOf calls x new) (sym m)
    (stands calls new s.rows s (sym (rows_of_standing calls new (calls_total new calls) s is)) is)

part_of : (a b : Option Bag) (x : Bag) → a ≡ Some x → (y : Bag) → b ≡ Some y → beside a b ≡ Some (plus x y)
part_of a b x e y f = ap (λ z. beside z b) e ∙ ap (beside (Some x)) f

same_rows : (old new : Bag) (c : Change) → IsTurn old new c.comes c.goes → rows_in c.comes ≡ 0 → rows_in c.goes
    ≡ 0 → old ≡ new
same_rows old new c turn no_comes no_goes =
    turn.was ∙ ap (plus turn.stays) (empty_bag c.goes no_goes ∙ sym (empty_bag c.comes no_comes)) ∙ sym turn.is

stands_at : (by : List Scalar) (calls : List Call) (old new : Bag) (c : Change) (k : Row) (was now : Option Standing)
    → IsTurn (with_key by k old) (with_key by k new) (with_key by k c.comes) (with_key by k c.goes)
    → IsStandingOf calls was (with_key by k old) → IsMovedAt by calls c k was now
    → IsStandingOf calls now (with_key by k new)
stands_at by calls old new c k was now turn h (inl kept) =
    subst (λ x. IsStandingOf calls x (with_key by k new)) (sym kept.2)
    (subst (IsStandingOf calls was) (same_rows (with_key by k old) (with_key by k new)
    (record { comes = with_key by k c.comes; goes = with_key by k c.goes }) turn kept.0 kept.1) h)
stands_at by calls old new c k was now turn h (inr move) =
    stands_moved calls (with_key by k old) (with_key by k new)
    (record { comes = with_key by k c.comes; goes = with_key by k c.goes }) turn was now
    (standing calls (with_key by k c.comes)) (standing calls (with_key by k c.goes)) refl refl h move

pub groups-moved : (by : List Scalar) (calls : List Call) (old new : Bag) (c : Change) → IsTurn old new c.comes c.goes
    → (groups groups' : Groups) → IsGroupsOf by calls old groups → (came : Bag) → projected by c.comes ≡ Some came
    → ((k : Row) → IsMovedAt by calls c k (get groups k) (get groups' k)) → IsGroupsOf by calls new groups'
groups-moved by calls old new c turn groups groups' h came keyed move =
    let image = image_by by in
    let rest = beside_there (projected by turn.stays) (projected by c.goes) h.keyed
    (sym (gathered-plus image turn.stays c.goes) ∙ ap (projected by) (sym turn.was) ∙ h.keys_are) in
    record {
      keyed = plus rest.0 came;
      keys_are = ap (projected by) turn.is ∙ gathered-plus image turn.stays c.comes
          ∙ part_of (projected by turn.stays) (projected by c.comes) rest.0 rest.1 came keyed;
      stand = λ k. stands_at by calls old new c k (get groups k) (get groups' k)
          (restricted-turn (λ row. is_row k (values_on by row)) old new c.comes c.goes turn) (h.stand k) (move k);
    }

-- ---- the rows of groups

nothing_list : (rows : List Row) → gathered (λ row. Some no_rows) (bag_of rows) ≡ Some no_rows
nothing_list [] = gathered-no_rows (λ row. Some no_rows)
nothing_list (row ∷ rows) = gathered-with_row (λ row. Some no_rows) row (bag_of rows)
    ∙ ap (beside (Some no_rows)) (nothing_list rows) ∙ beside-nothing (Some no_rows)

pub gathered-nothing : (b : Bag) → gathered (λ row. Some no_rows) b ≡ Some no_rows
gathered-nothing = by_rows (λ b. gathered (λ row. Some no_rows) b ≡ Some no_rows) nothing_list

keys_of_both : (n m : ℕ) → cond (is_some_of n) (once m) 0 ≡ cond (is_some_of m) (once n) 0
keys_of_both zero zero = refl
keys_of_both zero (suc m) = refl
keys_of_both (suc n) zero = refl
keys_of_both (suc n) (suc m) = refl

is_there : (n m : ℕ) → (cond (is_some_of n) m 0 ≡ 0 → ⊥) → n ≡ 0 → ⊥
is_there zero m some none = some refl
is_there (suc n) m some none = cc

isnt_there : (n m : ℕ) → (cond (not (is_some_of n)) m 0 ≡ 0 → ⊥) → n ≡ 0
isnt_there zero m some = refl
isnt_there (suc n) m some = absurd (some refl)

totals_are : (calls : List Call) (b : Bag) (found : Option (List Total)) (s : Standing)
    → option_map (λ totals. record { rows = rows_in b; totals = totals }) found ≡ Some s → found ≡ Some s.totals
totals_are calls b None s e = cc
totals_are calls b (Some ts) s e = let is : record { rows = rows_in b; totals = ts } ≡ s = cc in
    ap (λ (x : Standing). Some x.totals) is

shown-row : (by : List Scalar) (calls : List Call) (b : Bag) (k : Row) (found : Option Standing)
    → IsStandingOf calls found (with_key by k b) → (rows_in (with_key by k b) ≡ 0 → ⊥)
    → group_row by calls b k ≡ shown calls k found
shown-row by calls b k None h some = absurd (some h)
shown-row by calls b k (Some s) h some =
    ap (option_map (λ values. one_row (k ++ values))) (calls_over-answers (with_key by k b) calls
    ∙ ap (of_one (answers calls)) (totals_are calls (with_key by k b) (calls_total (with_key by k b) calls) s h.1))

shown-nothing : (by : List Scalar) (calls : List Call) (b : Bag) (k : Row) (found : Option Standing)
    → IsStandingOf calls found (with_key by k b) → rows_in (with_key by k b) ≡ 0 → shown calls k found ≡ Some no_rows
shown-nothing by calls b k None h none = refl
shown-nothing by calls b k (Some s) h none = absurd (h.0 none)

module _ (e : Scalar) (es : List Scalar) (calls : List Call) where
  pub grouped-shown : (b : Bag) (groups : Groups) → IsGroupsOf (e ∷ es) calls b groups → (ks : Bag)
      → grouped (e ∷ es) calls (with_keys (e ∷ es) ks b)
      ≡ gathered (λ k. shown calls k (get groups k)) (bag_of (keys ks))
  grouped-shown b groups h ks =
      let by = e ∷ es in
      let test = λ (row : Row). key_among ks (values_on by row) in
      let show = λ (k : Row). shown calls k (get groups k) in
      let part = beside_there (projected by (restricted test b)) (projected by (restricted (apart_from test) b)) h.keyed
      (sym (gathered-parts (image_by by) test b) ∙ h.keys_are) in
      let there : restricted (is_among ks) (bag_of (keys h.keyed)) ≡ restricted (is_among h.keyed) (bag_of (keys ks)) =
      bag_of_same _ _ (λ k.
      count-restricted (is_among ks) (bag_of (keys h.keyed)) k
      ∙ ap (λ n. cond (is_among ks k) n 0) (count-keys h.keyed k)
      ∙ keys_of_both (count ks k) (count h.keyed k)
      ∙ ap (λ n. cond (is_among h.keyed k) n 0) (sym (count-keys ks k))
      ∙ sym (count-restricted (is_among h.keyed) (bag_of (keys ks)) k)) in
      let rows : gathered (group_row by calls b) (restricted (is_among h.keyed) (bag_of (keys ks)))
      ≡ gathered show (restricted (is_among h.keyed) (bag_of (keys ks))) =
      gathered-within _ _ _ (λ k some. shown-row by calls b k (get groups k) (h.stand k) (λ none.
      is_there (count h.keyed k) (count (bag_of (keys ks)) k)
      (λ z. some (count-restricted (is_among h.keyed) (bag_of (keys ks)) k ∙ z))
      (rows_with_key by k b h.keyed h.keys_are ∙ none))) in
      let others : gathered show (restricted (apart_from (is_among h.keyed)) (bag_of (keys ks))) ≡ Some no_rows =
      gathered-within show (λ k. Some no_rows) _ (λ k some. shown-nothing by calls b k (get groups k) (h.stand k)
      (sym (rows_with_key by k b h.keyed h.keys_are) ∙ isnt_there (count h.keyed k) (count (bag_of (keys ks)) k)
      (λ z. some (count-restricted (apart_from (is_among h.keyed)) (bag_of (keys ks)) k ∙ z))))
      ∙ gathered-nothing _ in
      one_part e es calls test (is_among ks) (among_by_key by ks) b h.keyed h.keys_are part.0 part.1
      ∙ ap (gathered (group_row by calls b)) there
      ∙ rows
      ∙ sym (beside-nothing _)
      ∙ ap (beside (gathered show (restricted (is_among h.keyed) (bag_of (keys ks))))) (sym others)
      ∙ sym (gathered-parts show (is_among h.keyed) (bag_of (keys ks)))

  pub shown-carried : (old new o : Bag) (c : Change) → IsTurn old new c.comes c.goes → (groups groups' : Groups)
      → IsGroupsOf (e ∷ es) calls old groups → IsGroupsOf (e ∷ es) calls new groups' → (came went : Bag)
      → projected (e ∷ es) c.comes ≡ Some came → projected (e ∷ es) c.goes ≡ Some went
      → grouped (e ∷ es) calls old ≡ Some o → IsCarried o (grouped (e ∷ es) calls new)
      (sided (gathered (λ k. shown calls k (get groups' k)) (bag_of (keys (plus came went))))
      (gathered (λ k. shown calls k (get groups k)) (bag_of (keys (plus came went)))))
  shown-carried old new o c turn groups groups' h h' came went came_is went_is is =
      let by = e ∷ es in
      let ks = plus came went in
      subst (λ x. IsCarried o (grouped by calls new)
      (sided x (gathered (λ k. shown calls k (get groups k)) (bag_of (keys ks))))) (grouped-shown new groups' h' ks)
      (subst (λ x. IsCarried o (grouped by calls new) (sided (grouped by calls (with_keys by ks new)) x))
      (grouped-shown old groups h ks)
      (grouped-carried e es calls (λ row. key_among ks (values_on by row)) (is_among ks) (among_by_key by ks)
      old new o c turn
      (missed by ks c.comes came came_is (λ k. let s = count-plus came went k in omega arith))
      (missed by ks c.goes went went_is (λ k. let s = count-plus came went k in omega arith)) is))
