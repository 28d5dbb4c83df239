-- What a row more makes of the totals of its group.
--     stepped-standing     a group with a row more
--     told_any             a row whose arguments have values once has them always
use Rattle.std.specs.Prelude.{◌≡◌, ℕ, suc, pos, List, [], ◌∷◌, Option, Some, None, option_map}
use Rattle.std.proofs.Common.{refl, ap, ◌∙◌}
use Rattle.wh_value.specs.Value.{Value, Number, Truth, Text, Null, Row}
use Rattle.wh_meaning.specs.Scalar.{val, of_one, of_two}
use Rattle.wh_meaning.specs.Bag.{Bag, with_row}
use Rattle.wh_meaning.specs.Query.{Call, Sum, CountRows, Count, Total, with_argument, rows_in}
use Rattle.wh_maintenance.specs.Standing.{Standing, no_sum, call_total, before, calls_total, standing, begun}
use Rattle.wh_maintenance.specs.Standing.{nothing_yet}
use Rattle.wh_maintenance.proofs.Keys.{rows_in-with_row}
use Rattle.wh_maintenance.proofs.Totals.{total_of-with_row}
use Rattle.wh_group.specs.Tally.{counted, argument_of, tallied, stepped}

nothing_beside : {A B C : Type 0} (f : A → B → Option C) (a : Option A) → of_two f a None ≡ None
nothing_beside f None = refl
nothing_beside f (Some a) = refl

without_sum : (v : Option Value) (t : Option Total)
    → option_map no_sum (with_argument v t) ≡ with_argument (option_map counted v) (option_map no_sum t)
without_sum None t = refl
without_sum (Some v) None = refl
without_sum (Some (Number z)) (Some t) = refl
without_sum (Some (Truth b)) (Some t) = refl
without_sum (Some (Text b)) (Some t) = refl
without_sum (Some Null) (Some t) = refl

pub call_total-with_row : (call : Call) (row : Row) (b : Bag)
    → call_total (with_row row b) call ≡ with_argument (argument_of call row) (call_total b call)
call_total-with_row (Sum e) row b = total_of-with_row e row b
call_total-with_row CountRows row b = ap (λ n. Some (record { sum = pos 0; values = n })) (rows_in-with_row row b)
call_total-with_row (Count e) row b = ap (option_map no_sum) (total_of-with_row e row b)
    ∙ without_sum (val e row) (call_total b (Sum e))

tallied-both : (call : Call) (calls : List Call) (row : Row) (t : Option Total) (ts : Option (List Total))
    → of_two before (with_argument (argument_of call row) t) (of_one (tallied calls row) ts)
    ≡ of_one (tallied (call ∷ calls) row) (of_two before t ts)
tallied-both call calls row None ts =
    ap (λ t. of_two before t (of_one (tallied calls row) ts)) (nothing_beside _ (argument_of call row))
tallied-both call calls row (Some t) None = nothing_beside before _
tallied-both call calls row (Some t) (Some ts) = refl

calls_total-with_row : (calls : List Call) (row : Row) (b : Bag)
    → calls_total (with_row row b) calls ≡ of_one (tallied calls row) (calls_total b calls)
calls_total-with_row [] row b = refl
calls_total-with_row (call ∷ calls) row b =
    ap (λ t. of_two before t (calls_total (with_row row b) calls)) (call_total-with_row call row b)
    ∙ ap (of_two before (with_argument (argument_of call row) (call_total b call))) (calls_total-with_row calls row b)
    ∙ tallied-both call calls row (call_total b call) (calls_total b calls)

one_more : (calls : List Call) (row : Row) (n : ℕ) (found : Option (List Total))
    → option_map {U = Standing} (λ ts. record { rows = suc n; totals = ts }) (of_one (tallied calls row) found)
    ≡ of_one (stepped calls row) (option_map {U = Standing} (λ ts. record { rows = n; totals = ts }) found)
one_more calls row n None = refl
one_more calls row n (Some ts) = refl

pub stepped-standing : (calls : List Call) (row : Row) (b : Bag)
    → standing calls (with_row row b) ≡ of_one (stepped calls row) (standing calls b)
stepped-standing calls row b =
    ap (option_map (λ ts. record { rows = rows_in (with_row row b); totals = ts })) (calls_total-with_row calls row b)
    ∙ ap (λ n. option_map {U = Standing} (λ ts. record { rows = n; totals = ts })
    (of_one (tallied calls row) (calls_total b calls))) (rows_in-with_row row b)
    ∙ one_more calls row (rows_in b) (calls_total b calls)

-- ---- a row's arguments don't depend on what was added up

told_first : (a : Option Value) (t u : Total) → with_argument a (Some t) ≡ None → with_argument a (Some u) ≡ None
told_first None t u e = refl
told_first (Some v) t u e = cc

told_rest : (a b : Option Total) (xs ys : Option (List Total)) → (a ≡ None → b ≡ None) → (xs ≡ None → ys ≡ None)
    → of_two before a xs ≡ None → of_two before b ys ≡ None
told_rest None b xs ys f g e = ap (λ x. of_two before x ys) (f refl)
told_rest (Some a) b None ys f g e = ap (of_two before b) (g refl) ∙ nothing_beside before b
told_rest (Some a) b (Some xs) ys f g e = cc

pub told_any : (calls : List Call) (row : Row) (ts : List Total) → tallied calls row ts ≡ None
    → tallied calls row (begun calls) ≡ None
told_any [] row ts e = cc
told_any (call ∷ calls) row [] e = cc
told_any (call ∷ calls) row (t ∷ ts) e =
    told_rest (with_argument (argument_of call row) (Some t)) (with_argument (argument_of call row) (Some nothing_yet))
    (tallied calls row ts) (tallied calls row (begun calls))
    (told_first (argument_of call row) t nothing_yet) (told_any calls row ts) e
