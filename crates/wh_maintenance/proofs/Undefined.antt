-- Where groups have no rows afterwards, and that groups are told apart by nothing but the bag.
--     none_moved         a row that comes without an argument leaves none
--     one_groups         a bag has the groups of one map
use Rattle.std.specs.Prelude.{◌≡◌, ℕ, zero, suc, true, false, cond, List, [], ◌∷◌, ◌++◌, Option, Some, None, option_map}
use Rattle.std.proofs.Common.{arith, refl, sym, ap, ◌∙◌}
use Rattle.std.specs.Ordering.{eq_by_cmp}
use Rattle.std.specs.FinMap.{get, keys, same_map}
use Rattle.wh_value.specs.Value.{Row, row_cmp}
use Rattle.wh_value.specs.Order.{row_total, row-IsAntisymmetric}
use Rattle.wh_meaning.specs.Scalar.{Scalar, of_one, of_two}
use Rattle.wh_meaning.specs.Bag.{Bag, one_row, bag_of, plus, count, beside, gathered}
use Rattle.wh_meaning.specs.Query.{Call, Total, values_on, projected, rows_in, is_row, with_key, group_row, grouped}
use Rattle.wh_meaning.proofs.BagLaws.{count-no_rows, count-with_row, tied_rows}
use Rattle.wh_meaning.proofs.Gathered.{gathered-with_row}
use Rattle.wh_maintenance.specs.Turn.{IsTurn}
use Rattle.wh_maintenance.specs.Carried.{Change}
use Rattle.wh_maintenance.specs.Standing.{Standing, call_total, before, calls_total, standing, answers, Groups}
use Rattle.wh_maintenance.specs.Standing.{IsStandingOf, IsGroupsOf}
use Rattle.wh_maintenance.proofs.Turns.{restricted-turn}
use Rattle.wh_maintenance.proofs.Sides.{beside-comm}
use Rattle.wh_moves.proofs.Gathering.{by_rows}
use Rattle.wh_maintenance.proofs.Keys.{rows_with_key, once, count-keys}
use Rattle.wh_maintenance.proofs.Group.{no_keys, some_keys}
use Rattle.wh_maintenance.proofs.Totals.{both, call_total-plus, rows_in-plus, calls_over-answers}
use Rattle.wh_maintenance.proofs.Standing.{empty_bag, standing-none}

-- ---- a row that gives nothing

none_list : (f : Row → Option Bag) (k : Row) → f k ≡ None → (rows : List Row) → (count (bag_of rows) k ≡ 0 → ⊥)
    → gathered f (bag_of rows) ≡ None
none_list f k none [] some = absurd (some (count-no_rows k))
none_list f k none (row ∷ rows) some =
    gathered-with_row f row (bag_of rows)
    ∙ elim (eq_by_cmp row_cmp k row) as (λ t. eq_by_cmp row_cmp k row ≡ t
    → beside (f row) (gathered f (bag_of rows)) ≡ None) [
      | true ↦ λ t. ap (λ a. beside a (gathered f (bag_of rows))) (ap f (sym (tied_rows k row t)) ∙ none)
      | false ↦ λ t. ap (beside (f row)) (none_list f k none rows (λ z. some (count-with_row row (bag_of rows) k
          ∙ ap (λ t. cond t (suc (count (bag_of rows) k)) (count (bag_of rows) k)) t ∙ z)))
          ∙ beside-comm (f row) None
    ] refl

pub gathered_none_at : (f : Row → Option Bag) (b : Bag) (k : Row) → f k ≡ None → (count b k ≡ 0 → ⊥)
    → gathered f b ≡ None
gathered_none_at f b k none = by_rows (λ b. (count b k ≡ 0 → ⊥) → gathered f b ≡ None) (none_list f k none) b

-- ---- arguments that come

both-none : (a b : Option Total) → b ≡ None → both a b ≡ None
both-none None b e = refl
both-none (Some a) None e = refl
both-none (Some a) (Some b) e = cc

second_none : (a : Option Total) (b : Option (List Total)) → b ≡ None → of_two before a b ≡ None
second_none None b e = refl
second_none (Some a) None e = refl
second_none (Some a) (Some b) e = cc

one_none : (a b : Bag) (call : Call) (calls : List Call) (first : Option Total) (rest : Option (List Total))
    → call_total b call ≡ first → calls_total b calls ≡ rest → of_two before first rest ≡ None
    → (calls_total b calls ≡ None → calls_total (plus a b) calls ≡ None) → calls_total (plus a b) (call ∷ calls) ≡ None
one_none a b call calls None rest f r e ih =
    ap (λ t. of_two before t (calls_total (plus a b) calls))
    (call_total-plus a b call ∙ both-none (call_total a call) (call_total b call) f)
one_none a b call calls (Some t) None f r e ih = second_none (call_total (plus a b) call) _ (ih r)
one_none a b call calls (Some t) (Some ts) f r e ih = cc

none_plus : (a b : Bag) (calls : List Call) → calls_total b calls ≡ None → calls_total (plus a b) calls ≡ None
none_plus a b [] e = cc
none_plus a b (call ∷ calls) e =
    one_none a b call calls (call_total b call) (calls_total b calls) refl refl e (none_plus a b calls)

no_totals : (calls : List Call) (b : Bag) (found : Option (List Total))
    → option_map {U = Standing} (λ totals. record { rows = rows_in b; totals = totals }) found ≡ None → found ≡ None
no_totals calls b None e = refl
no_totals calls b (Some ts) e = cc

not_once : (n : ℕ) → once n ≡ 0 → n ≡ 0
not_once zero e = refl
not_once (suc n) e = cc

pub none_moved : (e : Scalar) (es : List Scalar) (calls : List Call) (old new : Bag) (c : Change)
    → IsTurn old new c.comes c.goes → (k : Row) → standing calls (with_key (e ∷ es) k c.comes) ≡ None
    → grouped (e ∷ es) calls new ≡ None
none_moved e es calls old new c turn k none =
    let by = e ∷ es in
    let came = with_key by k c.comes in
    let now = with_key by k new in
    let part = restricted-turn (λ row. is_row k (values_on by row)) old new c.comes c.goes turn in
    let untold : calls_total now calls ≡ None = ap (λ b. calls_total b calls) part.is
    ∙ none_plus part.stays came calls (no_totals calls came (calls_total came calls) none) in
    let some : rows_in now ≡ 0 → ⊥ = λ z.
    let sum = ap rows_in part.is ∙ rows_in-plus part.stays came in
    let gone : rows_in came ≡ 0 = omega arith in
    let there = sym (ap (standing calls) (empty_bag came gone) ∙ standing-none calls) ∙ none in cc in
    elim (projected by new) as (λ found. projected by new ≡ found → grouped by calls new ≡ None) [
      | None ↦ λ is. no_keys e es calls new is
      | Some keyed ↦ λ is. some_keys e es calls new keyed is
          ∙ gathered_none_at (group_row by calls new) (bag_of (keys keyed)) k
          (ap (option_map (λ values. one_row (k ++ values))) (calls_over-answers now calls
          ∙ ap (of_one (answers calls)) untold))
          (λ z. some (sym (rows_with_key by k new keyed is) ∙ not_once (count keyed k) (sym (count-keys keyed k) ∙ z)))
    ] refl

-- ---- one map

same_standing : (calls : List Call) (b : Bag) (s t : Option Standing) → IsStandingOf calls s b
    → IsStandingOf calls t b → s ≡ t
same_standing calls b None None h h' = refl
same_standing calls b None (Some t) h h' = absurd (h'.0 h)
same_standing calls b (Some s) None h h' = absurd (h.0 h')
same_standing calls b (Some s) (Some t) h h' = sym h.1 ∙ h'.1

pub one_groups : (by : List Scalar) (calls : List Call) (b : Bag) (g g' : Groups) → IsGroupsOf by calls b g
    → IsGroupsOf by calls b g' → g ≡ g'
one_groups by calls b g g' h h' = same_map row_total row-IsAntisymmetric g g' (λ k.
    same_standing calls (with_key by k b) (get g k) (get g' k) (h.stand k) (h'.stand k))

-- ---- rows that go have their keys and arguments

goes_list : (stays goes : Bag) (calls : List Call) (ts : List Total) → calls_total (plus stays goes) calls ≡ Some ts
    → calls_total goes calls ≡ None → ⊥
goes_list stays goes calls ts e n = let gone = none_plus stays goes calls n in cc

some_totals : (b : Bag) (found : Option (List Total)) (s : Standing)
    → option_map {U = Standing} (λ totals. record { rows = rows_in b; totals = totals }) found ≡ Some s
    → (ts : List Total) × (found ≡ Some ts)
some_totals b None s e = cc
some_totals b (Some ts) s e = (ts, refl)

pub goes_told : (calls : List Call) (old new : Bag) (c : Change) → IsTurn old new c.comes c.goes → (s : Standing)
    → standing calls old ≡ Some s → standing calls c.goes ≡ None → ⊥
goes_told calls old new c turn s is none =
    let had = some_totals old (calls_total old calls) s is in
    goes_list turn.stays c.goes calls had.0 (ap (λ b. calls_total b calls) (sym turn.was) ∙ had.1)
    (no_totals calls c.goes (calls_total c.goes calls) none)
