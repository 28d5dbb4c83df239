-- Where no source has a row.
--     nothing_before     a linear query has no rows
--     group_nothing      nor has one Group with keys over it, and what stands above that
--     groups_nothing     and no group stands
--     turn_all           what leads from no rows to a bag is the bag, and nothing goes
use Rattle.std.specs.Prelude.{◌≡◌, ◌+◌, Bool, true, false, if◌then◌else◌, List, [], ◌∷◌, Some, None}
use Rattle.std.proofs.Common.{arith, refl, sym, ap, subst, ◌∙◌}
use Rattle.std.specs.FinMap.{empty, keys, get-empty}
use Rattle.wh_value.specs.Value.{Row, row_cmp}
use Rattle.wh_meaning.specs.Scalar.{Scalar, of_one, of_two}
use Rattle.wh_meaning.specs.Bag.{Bag, no_rows, bag_of, plus, count, gathered}
use Rattle.wh_meaning.specs.Query.{Query, Scan, Filter, Project, Join, UnionAll, Group, Call, kept_by, image_by, filtered}
use Rattle.wh_meaning.specs.Query.{projected, values_on, rows_in, is_row, with_key, group_row, grouped, eval}
use Rattle.wh_meaning.proofs.BagLaws.{bag_of_same, count-no_rows, count-plus, plus-no_rows, no_rows-plus}
use Rattle.wh_meaning.proofs.BagLaws.{restricted-no_rows}
use Rattle.wh_meaning.proofs.Gathered.{gathered-no_rows}
use Rattle.wh_maintenance.specs.Turn.{IsTurn}
use Rattle.wh_maintenance.specs.Delta.{linear}
use Rattle.wh_maintenance.specs.Above.{Grouping, grouping}
use Rattle.wh_maintenance.specs.Standing.{IsStandingOf, IsGroupsOf}
use Rattle.wh_maintenance.proofs.Keys.{rows_in-no_rows, once, count-keys}
use Rattle.wh_maintenance.proofs.LinearQuery.{both_true}
use Rattle.wh_maintenance.proofs.Group.{some_keys}

pub nothing_before : (q : Query) → linear q ≡ true → eval q [] ≡ Some no_rows
unfolding linear eval
nothing_before (Scan source) e = refl
nothing_before (Filter q condition) e =
    ap (of_one (filtered condition)) (nothing_before q e) ∙ gathered-no_rows (kept_by condition)
nothing_before (Project q items) e =
    ap (of_one (projected items)) (nothing_before q e) ∙ gathered-no_rows (image_by items)
nothing_before (Join left right on) e = cc
nothing_before (UnionAll left right) e =
    let both = both_true (linear left) (linear right) e in
    (λ i. of_two (λ a b. Some (plus a b)) (nothing_before left both.0 i) (nothing_before right both.1 i))
    ∙ ap Some (plus-no_rows no_rows)
nothing_before (Group q by calls) e = cc

keys_nothing : bag_of (keys no_rows) ≡ no_rows
keys_nothing = bag_of_same _ _ (λ k. count-keys no_rows k ∙ ap once (count-no_rows k) ∙ sym (count-no_rows k))

pub grouped_nothing : (e : Scalar) (es : List Scalar) (calls : List Call) → grouped (e ∷ es) calls no_rows ≡ Some no_rows
grouped_nothing e es calls =
    some_keys e es calls no_rows no_rows (gathered-no_rows (image_by (e ∷ es)))
    ∙ ap (λ b. gathered (group_row (e ∷ es) calls no_rows) b) keys_nothing
    ∙ gathered-no_rows (group_row (e ∷ es) calls no_rows)

one_nothing : (q : Query) (by : List Scalar) (calls : List Call) (g : Grouping) (e : Scalar) (es : List Scalar)
    (t : Bool) → linear q ≡ t → (if t then Some (record { below = q; by = by; calls = calls }) else None) ≡ Some g
    → g.by ≡ e ∷ es → eval (Group q by calls) [] ≡ Some no_rows
unfolding eval
one_nothing q by calls g e es false is found keyed = cc
one_nothing q by calls g e es true is found keyed =
    let same : ◌≡◌ {A = Grouping} (record { below = q; by = by; calls = calls }) g = cc in
    ap (of_one (grouped by calls)) (nothing_before q is)
    ∙ ap (λ by. grouped by calls no_rows) (ap (λ g. g.by) same ∙ keyed) ∙ grouped_nothing e es calls

pub group_nothing : (q : Query) (g : Grouping) → grouping q ≡ Some g → (e : Scalar) (es : List Scalar) → g.by ≡ e ∷ es
    → eval q [] ≡ Some no_rows
unfolding grouping eval
group_nothing (Scan source) g is e es keyed = cc
group_nothing (Filter q condition) g is e es keyed =
    ap (of_one (filtered condition)) (group_nothing q g is e es keyed) ∙ gathered-no_rows (kept_by condition)
group_nothing (Project q items) g is e es keyed =
    ap (of_one (projected items)) (group_nothing q g is e es keyed) ∙ gathered-no_rows (image_by items)
group_nothing (Join left right on) g is e es keyed = cc
group_nothing (UnionAll left right) g is e es keyed = cc
group_nothing (Group q by calls) g is e es keyed = one_nothing q by calls g e es (linear q) refl is keyed

pub groups_nothing : (by : List Scalar) (calls : List Call) → IsGroupsOf by calls no_rows empty
groups_nothing by calls = record {
  keyed = no_rows;
  keys_are = gathered-no_rows (image_by by);
  stand = λ k. subst (λ found. IsStandingOf calls found (with_key by k no_rows)) (sym (get-empty row_cmp k))
      (ap rows_in (restricted-no_rows (λ row. is_row k (values_on by row))) ∙ rows_in-no_rows);
}

pub turn_all : (new comes goes : Bag) → IsTurn no_rows new comes goes → (comes ≡ new) × (goes ≡ no_rows)
turn_all new comes goes turn =
    let none : (q : Row) → (count turn.stays q ≡ 0) × (count goes q ≡ 0) = λ q.
    let sum : count no_rows q ≡ count turn.stays q + count goes q =
    ap (λ b. count b q) turn.was ∙ count-plus turn.stays goes q in
    let zero = count-no_rows q in (omega arith, omega arith) in
    let no_stays : turn.stays ≡ no_rows = bag_of_same _ _ (λ q. (none q).0 ∙ sym (count-no_rows q)) in (
      sym (turn.is ∙ ap (λ b. plus b comes) no_stays ∙ no_rows-plus comes),
      bag_of_same _ _ (λ q. (none q).1 ∙ sym (count-no_rows q)),
    )

-- and the bag itself leads there
pub turn_from_nothing : (new : Bag) → IsTurn no_rows new new no_rows
turn_from_nothing new = record {
  stays = no_rows;
  was = sym (plus-no_rows no_rows);
  is = sym (no_rows-plus new);
}
