-- What calls answer over listed rows: each call's fold over the bag is its part of the totals.
--     answers-bag_of     the answers of calls over a bag of rows are those of the rows' totals
use Rattle.std.specs.Prelude.{◌≡◌, suc, List, [], ◌∷◌, pos, Option, Some, None}
use Rattle.std.proofs.Common.{refl, sym, ap, ◌∙◌}
use Rattle.wh_value.specs.Value.{Row}
use Rattle.wh_meaning.specs.Scalar.{Scalar, val, of_one, of_two}
use Rattle.wh_meaning.specs.Bag.{bag_of}
use Rattle.wh_meaning.specs.Query.{Call, Sum, CountRows, Count, Total, with_argument, with_value}
use Rattle.wh_meaning.specs.Query.{sum_value, count_value, call_over, calls_over, total_of}
use Rattle.wh_meaning.proofs.BagLaws.{fold_list, fold_bag_of}
use Rattle.wh_meaning.proofs.Listed.{argument-turned}
use Rattle.wh_aggregate.specs.Tally.{argument_of, nothing, before, begun, tallied, answer, answers}

-- the totals of calls over rows, from the last to the first
abbrev pub totals_from : List Call → List Row → Option (List Total)
totals_from calls [] = Some (begun calls)
totals_from calls (row ∷ rows) = of_one (tallied calls row) (totals_from calls rows)

-- what one call adds up over rows
abbrev pub total_from : Call → List Row → Option Total
total_from call rows = fold_list (λ row t. with_argument (argument_of call row) t) (Some nothing) rows

total_of-bag_of : (e : Scalar) (rows : List Row) → total_of e (bag_of rows) ≡ total_from (Sum e) rows
total_of-bag_of e rows = fold_bag_of (λ row t. with_argument (val e row) t) (Some nothing)
    (λ x y t. argument-turned (val e x) (val e y) t) rows

rows_counted : (rows : List Row)
    → total_from CountRows rows ≡ Some (record { sum = pos 0; values = fold_list (λ row n. suc n) 0 rows })
rows_counted [] = refl
rows_counted (row ∷ rows) = ap (with_argument (argument_of CountRows row)) (rows_counted rows)

answer-bag_of : (call : Call) (rows : List Row)
    → call_over (bag_of rows) call ≡ of_one (answer call) (total_from call rows)
unfolding call_over
answer-bag_of (Sum e) rows = ap (of_one (λ t. sum_value t.sum t.values)) (total_of-bag_of e rows)
answer-bag_of CountRows rows =
    ap count_value (fold_bag_of (λ row n. suc n) 0 (λ x y n. refl) rows)
    ∙ sym (ap (of_one (answer CountRows)) (rows_counted rows))
answer-bag_of (Count e) rows = ap (of_one (λ t. count_value t.values)) (total_of-bag_of e rows)

-- ---- the totals of calls are those of each call

pub nothing_beside : {A B C : Type 0} (f : A → B → Option C) (a : Option A) → of_two f a None ≡ None
nothing_beside f None = refl
nothing_beside f (Some a) = refl

tallied-both : (call : Call) (calls : List Call) (row : Row) (t : Option Total) (ts : Option (List Total)) →
    of_one (tallied (call ∷ calls) row) (of_two before t ts)
    ≡ of_two before (with_argument (argument_of call row) t) (of_one (tallied calls row) ts)
tallied-both call calls row None ts =
    sym (ap (λ t. of_two before t (of_one (tallied calls row) ts)) (nothing_beside _ (argument_of call row)))
tallied-both call calls row (Some t) None = sym (nothing_beside before _)
tallied-both call calls row (Some t) (Some ts) = refl

pub totals_from-both : (call : Call) (calls : List Call) (rows : List Row)
    → totals_from (call ∷ calls) rows ≡ of_two before (total_from call rows) (totals_from calls rows)
totals_from-both call calls [] = refl
totals_from-both call calls (row ∷ rows) =
    ap (of_one (tallied (call ∷ calls) row)) (totals_from-both call calls rows)
    ∙ tallied-both call calls row (total_from call rows) (totals_from calls rows)

pub totals_from-none : (rows : List Row) → totals_from [] rows ≡ Some []
totals_from-none [] = refl
totals_from-none (row ∷ rows) = ap (of_one (tallied [] row)) (totals_from-none rows)

answers-both : (call : Call) (calls : List Call) (t : Option Total) (ts : Option (List Total)) →
    with_value (of_one (answer call) t) (of_one (answers calls) ts)
    ≡ of_one (answers (call ∷ calls)) (of_two before t ts)
answers-both call calls None ts = refl
answers-both call calls (Some t) None = nothing_beside _ (answer call t)
answers-both call calls (Some t) (Some ts) = refl

pub answers-bag_of : (calls : List Call) (rows : List Row)
    → calls_over (bag_of rows) calls ≡ of_one (answers calls) (totals_from calls rows)
answers-bag_of [] rows = sym (ap (of_one (answers [])) (totals_from-none rows))
answers-bag_of (call ∷ calls) rows =
    ap (λ v. with_value v (calls_over (bag_of rows) calls)) (answer-bag_of call rows)
    ∙ ap (with_value (of_one (answer call) (total_from call rows))) (answers-bag_of calls rows)
    ∙ answers-both call calls (total_from call rows) (totals_from calls rows)
    ∙ sym (ap (of_one (answers (call ∷ calls))) (totals_from-both call calls rows))
