-- What rows that come and go make of totals.
--     total_of-plus, rows_in-plus      the totals of two bags together
--     calls_over-answers               a group's values are the answers of its totals
--     standing-moved                   the totals afterwards, from those before and those of the change
use Rattle.std.specs.Prelude.{◌≡◌, ℕ, ◌+◌, ◌-◌, pos, ◌+ℤ◌, List, [], ◌∷◌, Option, Some, None, option_map}
use Rattle.std.proofs.Common.{arith, refl, sym, ap, ◌∙◌}
use Rattle.std.proofs.lemmas.Int.{ints}
use Rattle.wh_value.specs.Value.{Value, Number, Truth, Text, Null, Row}
use Rattle.wh_meaning.specs.Scalar.{Scalar, val, of_one, of_two}
use Rattle.wh_meaning.specs.Bag.{Bag, no_rows, bag_of, with_row, plus}
use Rattle.wh_meaning.specs.Query.{Call, Sum, CountRows, Count, Total, with_number, with_argument, total_of, rows_in}
use Rattle.wh_meaning.specs.Query.{call_over, calls_over, with_value, count_value}
use Rattle.wh_meaning.proofs.BagLaws.{fold-no_rows, fold-with_row, no_rows-plus, with_row-plus}
use Rattle.wh_meaning.proofs.Listed.{argument-turned}
use Rattle.wh_maintenance.specs.Turn.{IsTurn}
use Rattle.wh_maintenance.specs.Carried.{Change}
use Rattle.wh_maintenance.specs.Standing.{Standing, no_sum, call_total, before, calls_total, standing, moved_total}
use Rattle.wh_maintenance.specs.Standing.{moved_totals, moved, answer, answers, nothing_yet}
use Rattle.wh_moves.proofs.Gathering.{by_rows}
use Rattle.wh_maintenance.proofs.Keys.{rows_in-no_rows, rows_in-with_row}

abbrev pub together : Total → Total → Total
together s t = record { sum = s.sum +ℤ t.sum; values = s.values + t.values }

same_total : (s t : Total) → s.sum ≡ t.sum → s.values ≡ t.values → s ≡ t
same_total s t e f = ap (λ z. record { sum = z; values = s.values }) e ∙ ap (λ n. record { sum = t.sum; values = n }) f

number_together : (v : Value) (s t : Total) → with_number v (together s t) ≡ together (with_number v s) t
number_together (Number z) s t = same_total _ _ (omega (arith, ints)) (omega arith)
number_together (Truth b) s t = same_total _ _ refl (omega arith)
number_together (Text b) s t = same_total _ _ refl (omega arith)
number_together Null s t = refl

abbrev pub both : Option Total → Option Total → Option Total
both a b = of_two (λ s t. Some (together s t)) a b

argument_together : (v : Option Value) (a b : Option Total) → with_argument v (both a b) ≡ both (with_argument v a) b
argument_together None a b = refl
argument_together (Some v) None b = refl
argument_together (Some v) (Some s) None = refl
argument_together (Some v) (Some s) (Some t) = ap Some (number_together v s t)

pub total_of-no_rows : (e : Scalar) → total_of e no_rows ≡ Some nothing_yet
total_of-no_rows e = fold-no_rows (λ row t. with_argument (val e row) t) (Some nothing_yet)

pub total_of-with_row : (e : Scalar) (row : Row) (b : Bag) → total_of e (with_row row b)
    ≡ with_argument (val e row) (total_of e b)
total_of-with_row e row b = fold-with_row (λ row t. with_argument (val e row) t) (Some nothing_yet)
    (λ x y t. argument-turned (val e x) (val e y) t) row b

nothing_together : (a : Option Total) → both (Some nothing_yet) a ≡ a
nothing_together None = refl
nothing_together (Some t) = ap Some (same_total _ _ (omega (arith, ints)) (omega arith))

total_list : (e : Scalar) (b : Bag) (rows : List Row) → total_of e (plus (bag_of rows) b)
    ≡ both (total_of e (bag_of rows)) (total_of e b)
total_list e b [] = ap (total_of e) (no_rows-plus b) ∙ sym (nothing_together (total_of e b))
    ∙ ap (λ a. both a (total_of e b)) (sym (total_of-no_rows e))
total_list e b (row ∷ rows) =
    ap (total_of e) (with_row-plus row (bag_of rows) b)
    ∙ total_of-with_row e row (plus (bag_of rows) b)
    ∙ ap (with_argument (val e row)) (total_list e b rows)
    ∙ argument_together (val e row) (total_of e (bag_of rows)) (total_of e b)
    ∙ ap (λ a. both a (total_of e b)) (sym (total_of-with_row e row (bag_of rows)))

pub total_of-plus : (e : Scalar) (a b : Bag) → total_of e (plus a b) ≡ both (total_of e a) (total_of e b)
total_of-plus e a b = by_rows (λ a. total_of e (plus a b) ≡ both (total_of e a) (total_of e b)) (total_list e b) a

rows_list : (b : Bag) (rows : List Row) → rows_in (plus (bag_of rows) b) ≡ rows_in (bag_of rows) + rows_in b
rows_list b [] = let none = rows_in-no_rows in let e = ap rows_in (no_rows-plus b) in omega arith
rows_list b (row ∷ rows) =
    let e = ap rows_in (with_row-plus row (bag_of rows) b) in
    let l = rows_in-with_row row (plus (bag_of rows) b) in
    let r = rows_in-with_row row (bag_of rows) in
    let ih = rows_list b rows in
    omega arith

pub rows_in-plus : (a b : Bag) → rows_in (plus a b) ≡ rows_in a + rows_in b
rows_in-plus a b = by_rows (λ a. rows_in (plus a b) ≡ rows_in a + rows_in b) (rows_list b) a

-- ---- a call

no_sums : (a b : Option Total) → option_map no_sum (both a b) ≡ both (option_map no_sum a) (option_map no_sum b)
no_sums None b = refl
no_sums (Some s) None = refl
no_sums (Some s) (Some t) = refl

pub call_total-plus : (a b : Bag) (call : Call) → call_total (plus a b) call
    ≡ both (call_total a call) (call_total b call)
call_total-plus a b (Sum e) = total_of-plus e a b
call_total-plus a b CountRows = ap (λ n. Some (record { sum = pos 0; values = n })) (rows_in-plus a b)
call_total-plus a b (Count e) = ap (option_map no_sum) (total_of-plus e a b) ∙ no_sums (total_of e a) (total_of e b)

moved_back : (s g c : Total) → moved_total (together s g) c g ≡ together s c
moved_back s g c = same_total _ _ (omega (arith, ints)) (omega arith)

abbrev pub moving : Total → Option Total → Option Total → Option Total
moving t came went = of_two (λ c w. Some (moved_total t c w)) came went

moved_parts : (s g c : Option Total) (t : Total) → both s g ≡ Some t → both s c ≡ moving t c g
moved_parts None g c t e = cc
moved_parts (Some s) None c t e = cc
moved_parts (Some s) (Some g) None t e = refl
moved_parts (Some s) (Some g) (Some c) t e = let is : together s g ≡ t = cc in
    ap Some (sym (moved_back s g c) ∙ ap (λ x. moved_total x c g) is)

module _ (old new : Bag) (c : Change) (turn : IsTurn old new c.comes c.goes) where
  pub call-moved : (call : Call) (t : Total) → call_total old call ≡ Some t
      → call_total new call ≡ moving t (call_total c.comes call) (call_total c.goes call)
  call-moved call t is =
      ap (λ b. call_total b call) turn.is
      ∙ call_total-plus turn.stays c.comes call
      ∙ moved_parts (call_total turn.stays call) (call_total c.goes call) (call_total c.comes call) t
      (sym (call_total-plus turn.stays c.goes call) ∙ ap (λ b. call_total b call) (sym turn.was) ∙ is)

  pub rows-moved : rows_in new ≡ (rows_in old + rows_in c.comes) - rows_in c.goes
  rows-moved =
      let o = ap rows_in turn.was ∙ rows_in-plus turn.stays c.goes in
      let n = ap rows_in turn.is ∙ rows_in-plus turn.stays c.comes in
      omega arith

  abbrev moving_all : List Total → Option (List Total) → Option (List Total) → Option (List Total)
  moving_all ts came went = of_two (λ c w. Some (moved_totals ts c w)) came went

  zipped : (t : Total) (ts : List Total) (a b : Option Total) (xs ys : Option (List Total))
      → of_two before (moving t a b) (moving_all ts xs ys)
      ≡ moving_all (t ∷ ts) (of_two before a xs) (of_two before b ys)
  zipped t ts None b xs ys = refl
  zipped t ts (Some a) None None ys = refl
  zipped t ts (Some a) None (Some xs) ys = refl
  zipped t ts (Some a) (Some b) None ys = refl
  zipped t ts (Some a) (Some b) (Some xs) None = refl
  zipped t ts (Some a) (Some b) (Some xs) (Some ys) = refl

  one_more : (call : Call) (calls : List Call) (first : Option Total) (rest : Option (List Total)) (ts : List Total)
      → call_total old call ≡ first → calls_total old calls ≡ rest → of_two before first rest ≡ Some ts
      → ((ts : List Total) → rest ≡ Some ts
      → calls_total new calls ≡ moving_all ts (calls_total c.comes calls) (calls_total c.goes calls))
      → calls_total new (call ∷ calls)
      ≡ moving_all ts (calls_total c.comes (call ∷ calls)) (calls_total c.goes (call ∷ calls))
  one_more call calls None rest ts f r e ih = cc
  one_more call calls (Some t) None ts f r e ih = cc
  one_more call calls (Some t) (Some us) ts f r e ih =
      let is : t ∷ us ≡ ts = cc in
      ap (λ x. of_two before x (calls_total new calls)) (call-moved call t f)
      ∙ ap (of_two before (moving t (call_total c.comes call) (call_total c.goes call))) (ih us refl)
      ∙ zipped t us (call_total c.comes call) (call_total c.goes call) (calls_total c.comes calls)
      (calls_total c.goes calls)
      ∙ ap (λ x. moving_all x (calls_total c.comes (call ∷ calls)) (calls_total c.goes (call ∷ calls))) is

  pub calls-moved : (calls : List Call) (ts : List Total) → calls_total old calls ≡ Some ts
      → calls_total new calls ≡ moving_all ts (calls_total c.comes calls) (calls_total c.goes calls)
  calls-moved [] ts e = let is : ◌≡◌ {A = List Total} [] ts = cc in ap (λ x. moving_all x (Some []) (Some [])) is
  calls-moved (call ∷ calls) ts e =
      one_more call calls (call_total old call) (calls_total old calls) ts refl refl e (calls-moved calls)

  abbrev pub moving_standing : Standing → Option Standing → Option Standing → Option Standing
  moving_standing s came went = of_two (λ c w. Some (moved s c w)) came went

  with_rows : (ts : List Total) (n m k l : ℕ) (xs ys : Option (List Total)) → n ≡ (m + k) - l
      → option_map (λ totals. record { rows = n; totals = totals }) (moving_all ts xs ys)
      ≡ moving_standing (record { rows = m; totals = ts })
      (option_map (λ totals. record { rows = k; totals = totals }) xs)
      (option_map (λ totals. record { rows = l; totals = totals }) ys)
  with_rows ts n m k l None ys e = refl
  with_rows ts n m k l (Some a) None e = refl
  with_rows ts n m k l (Some a) (Some b) e = ap (λ x. Some (record { rows = x; totals = moved_totals ts a b })) e

  totals_of : (calls : List Call) (found : Option (List Total)) (s : Standing)
      → option_map (λ totals. record { rows = rows_in old; totals = totals }) found ≡ Some s
      → (found ≡ Some s.totals) × (rows_in old ≡ s.rows)
  totals_of calls None s e = cc
  totals_of calls (Some ts) s e = let is : record { rows = rows_in old; totals = ts } ≡ s = cc in
      (ap (λ x. Some x.totals) is, ap (λ (x : Standing). x.rows) is)

  pub standing-moved : (calls : List Call) (s : Standing) → standing calls old ≡ Some s
      → standing calls new ≡ moving_standing s (standing calls c.comes) (standing calls c.goes)
  standing-moved calls s e =
      let p = totals_of calls (calls_total old calls) s e in
      ap (option_map (λ totals. record { rows = rows_in new; totals = totals })) (calls-moved calls s.totals p.0)
      ∙ with_rows s.totals (rows_in new) s.rows (rows_in c.comes) (rows_in c.goes) (calls_total c.comes calls)
      (calls_total c.goes calls) (rows-moved ∙ ap (λ n. (n + rows_in c.comes) - rows_in c.goes) p.1)

-- ---- answers

call-answer : (b : Bag) (call : Call) → call_over b call ≡ of_one (answer call) (call_total b call)
unfolding call_over
call-answer b (Sum e) = refl
call-answer b CountRows = refl
call-answer b (Count e) = elim (total_of e b) as (λ found. of_one (λ t. count_value t.values) found
    ≡ of_one (λ t. count_value t.values) (option_map no_sum found)) [ None ↦ refl | Some t ↦ refl ]

answered : (call : Call) (calls : List Call) (a : Option Total) (xs : Option (List Total))
    → with_value (of_one (answer call) a) (of_one (answers calls) xs)
    ≡ of_one (answers (call ∷ calls)) (of_two before a xs)
answered call calls None xs = refl
answered call calls (Some t) None = elim (answer call t) as (λ v. with_value v None
    ≡ None) [ None ↦ refl | Some v ↦ refl ]
answered call calls (Some t) (Some ts) = refl

pub calls_over-answers : (b : Bag) (calls : List Call) → calls_over b calls
    ≡ of_one (answers calls) (calls_total b calls)
calls_over-answers b [] = refl
calls_over-answers b (call ∷ calls) =
    ap (λ v. with_value v (calls_over b calls)) (call-answer b call)
    ∙ ap (with_value (of_one (answer call) (call_total b call))) (calls_over-answers b calls)
    ∙ answered call calls (call_total b call) (calls_total b calls)
