-- Where the loops over calls, scalars and rows stand and end, and what calls on groups give.
use Rattle.std.specs.Prelude.{◌≡◌, ℕ, zero, suc, ◌+◌, ◌-◌, ◌<◌, ◌≤◌, List, [], ◌∷◌, ◌++◌, Option, Some, None, Result}
use Rattle.std.specs.Prelude.{Ok, Err, Vec, option_map, length, take, drop, min}
use Rattle.std.proofs.Common.{refl, sym, ap, ◌∙◌, arith, append-nil, append_assoc, get_or}
use Rattle.std.specs.declared.alloc.Global.{Global}
use Rattle.std.specs.FinMap.{entries}
use Rattle.std.proofs.lemmas.List.{drop_all, drop_more, take-append-drop, map-append}
use Rattle.wh_value.specs.Value.{Row}
use Rattle.wh_meaning.specs.Scalar as scalars
use Rattle.wh_meaning.specs.Scalar.{of_two}
use Rattle.wh_meaning.specs.Query as meaning
use Rattle.wh_meaning.specs.Bag.{Bag, bag_of, plus}
use Rattle.wh_meaning.specs.Query.{Total, values_on, grouped}
use Rattle.wh_meaning.proofs.BagLaws.{bag_of-append}
use Rattle.wh_scalar.specs.declared.fault.EvalFault.{EvalFault}
use Rattle.wh_scalar.specs.declared.fault.EvalFault.TheVariants.{NumberOutOfRange, OutOfMemory}
use Rattle.wh_algebra.specs.View.{calls_of}
use Rattle.wh_algebra.specs.Tuple.{row_in, rows_in}
use Rattle.wh_algebra.specs.declared.query.Call.{Call}
use Rattle.wh_algebra.specs.declared.tuple.Tuple.{Tuple}
use Rattle.wh_aggregate.specs.Given.{Leaves, GivesListed, GivesRows}
use Rattle.wh_aggregate.specs.Tally.{answers}
use Rattle.wh_aggregate.specs.Groups.{Groups, begun_groups, noted, added, groups_of, AreOver, TakesIn, group_row}
use Rattle.wh_aggregate.specs.Groups.{row_before, listed}
use Rattle.wh_aggregate.proofs.GroupLemmas.{grouped-listed, grouped-undefined}

answers-no_totals : (calls : List meaning.Call) → answers calls [] ≡ Some []
answers-no_totals [] = refl
answers-no_totals (call ∷ calls) = refl

pub answered_all : (calls : List Call) (totals : List Total) (row : Row) (i : ℕ) →
    min (length calls) (length totals) ≤ i →
    option_map (λ rest. row ++ rest) (answers (calls_of (drop i calls)) (drop i totals)) ≡ Some row
answered_all [] totals row i past =
    ap (λ cs. option_map (λ rest. row ++ rest) (answers (calls_of cs) (drop i totals))) (drop_all i [] (omega arith))
    ∙ ap Some (append-nil row)
answered_all (call ∷ calls) [] row i past =
    ap (λ ts. option_map (λ rest. row ++ rest) (answers (calls_of (drop i (call ∷ calls))) ts))
    (drop_all i [] (omega arith))
    ∙ ap (option_map (λ rest. row ++ rest)) (answers-no_totals (calls_of (drop i (call ∷ calls))))
    ∙ ap Some (append-nil row)
answered_all (call ∷ calls) (t ∷ ts) row zero past = absurd (omega arith)
answered_all (call ∷ calls) (t ∷ ts) row (suc i) past = answered_all calls ts row i (omega arith)

-- ---- from the last row to the first: where the walk stops, nothing is left over all rows

none_before : {A B C : Type 0} (f : A → B → Option C) (a : Option A) (b : Option B) → b ≡ None → of_two f a b ≡ None
none_before f None b e = refl
none_before f (Some a) b e = ap (of_two f (Some a)) e

none_behind : (by : List scalars.Scalar) (calls : List meaning.Call) (groups : Groups) (more rows : List Row)
    → added by calls groups rows ≡ None
    → added by calls groups (more ++ rows) ≡ None
none_behind by calls groups [] rows e = e
none_behind by calls groups (row ∷ more) rows e =
    none_before (noted calls row) (values_on by row) _ (none_behind by calls groups more rows e)

-- the tuple before the place up to which the walk came
pub record Reached (tuples : List Tuple) (left : ℕ) (tuple : Tuple) (row : Row) : Type 0 where
  pub some : 0 < left
  pub within : left ≤ length tuples
  pub tuple_is : tuple ≡ get_or tuples (left - 1) tuple
  pub row_is : row ≡ row_in tuple

reached_rows : (tuples : List Tuple) (left : ℕ) (tuple : Tuple) (row : Row) → Reached tuples left tuple row
    → rows_in (drop (left - 1) tuples) ≡ row ∷ rows_in (drop left tuples)
reached_rows tuples left tuple row r =
    let some = r.some in
    let within = r.within in
    let next : (left - 1) + 1 ≡ left = omega arith in
    ap rows_in (drop_more tuples (left - 1) tuple (omega arith))
    ∙ ap (λ i. row_in (get_or tuples (left - 1) tuple) ∷ rows_in (drop i tuples)) next
    ∙ ap (λ x. x ∷ rows_in (drop left tuples)) (sym (r.row_is ∙ ap row_in r.tuple_is))

pub stopped_at : (by : List scalars.Scalar) (calls : List meaning.Call) (tuples : List Tuple)
    (left : ℕ) (tuple : Tuple) (row : Row) (start groups : Groups)
    → Reached tuples left tuple row → added by calls start (rows_in (drop left tuples)) ≡ Some groups
    → of_two (noted calls row) (values_on by row) (Some groups) ≡ None
    → added by calls start (rows_in tuples) ≡ None
stopped_at by calls tuples left tuple row start groups r so_far none =
    ap (λ ts. added by calls start (rows_in ts)) (sym (take-append-drop (left - 1) tuples))
    ∙ ap (added by calls start) (map-append row_in (take (left - 1) tuples) (drop (left - 1) tuples))
    ∙ none_behind by calls start (rows_in (take (left - 1) tuples)) (rows_in (drop (left - 1) tuples))
    (ap (added by calls start) (reached_rows tuples left tuple row r)
    ∙ ap (of_two (noted calls row) (values_on by row)) so_far ∙ none)

-- ---- a row more of the listing

behind : (rows : List Row) (row : Row) (rest : Option (List Row))
    → option_map (λ r. rows ++ r) (of_two row_before (Some row) rest) ≡ option_map (λ r. (rows ++ row ∷ []) ++ r) rest
behind rows row None = refl
behind rows row (Some rest) = ap Some (sym (append_assoc rows (row ∷ []) rest))

pub listed_more : (calls : List meaning.Call) (rows : List Row) (e : Row × List Total)
    (es : List (Row × List Total)) (row : Row)
    → group_row calls e.0 e.1 ≡ Some row
    → option_map (λ r. rows ++ r) (listed calls (e ∷ es)) ≡ option_map (λ r. (rows ++ row ∷ []) ++ r) (listed calls es)
listed_more calls rows e es row is = ap (λ g. option_map (λ r. rows ++ r) (of_two row_before g (listed calls es))) is
    ∙ behind rows row (listed calls es)

pub listed_none : (calls : List meaning.Call) (rows : List Row) (e : Row × List Total) (es : List (Row × List Total))
    → group_row calls e.0 e.1 ≡ None
    → option_map (λ r. rows ++ r) (listed calls (e ∷ es)) ≡ None
listed_none calls rows e es is = ap (λ g. option_map (λ r. rows ++ r) (of_two row_before g (listed calls es))) is

-- ---- what calls on groups give

added_onto : (by : List scalars.Scalar) (calls : List meaning.Call) (start groups : Groups) (rows behind : List Row)
    → added by calls start behind ≡ Some groups
    → added by calls start (rows ++ behind) ≡ added by calls groups rows
added_onto by calls start groups [] behind e = e
added_onto by calls start groups (row ∷ rows) behind e =
    ap (of_two (noted calls row) (values_on by row)) (added_onto by calls start groups rows behind e)

bag_given : (r : Result (Vec Row Global) EvalFault) (found : Option (List Row)) (meant : Option Bag)
    → GivesListed r found → meant ≡ option_map bag_of found → GivesRows r meant
bag_given (Ok rows) found meant is e = e ∙ ap (option_map bag_of) is
bag_given (Err NumberOutOfRange) found meant is e = e ∙ ap (option_map bag_of) is
bag_given (Err OutOfMemory) found meant is e = tt

module _ (by : List scalars.Scalar) (calls : List meaning.Call) (b : Bag) (groups : Groups)
    (over : AreOver by calls b groups) where
  bag_with : (rows : List Row) → bag_of (rows ++ over.rows) ≡ plus (bag_of rows) b
  bag_with rows = bag_of-append rows over.rows ∙ ap (plus (bag_of rows)) over.bag_is

  groups_with : (rows : List Row) → groups_of by calls (rows ++ over.rows) ≡ added by calls groups rows
  groups_with rows = added_onto by calls (begun_groups by calls) groups rows over.rows over.groups_are

  pub taken_in : (rows : List Row) (r : Result Unit EvalFault) (new : Groups)
      → Leaves r new (added by calls groups rows) → TakesIn by calls rows b r new
  taken_in rows (Ok done) new is =
      record { rows = rows ++ over.rows; bag_is = bag_with rows; groups_are = groups_with rows ∙ is }
  taken_in rows (Err NumberOutOfRange) new none = λ more.
      ap (grouped by calls)
      (sym (bag_of-append more (rows ++ over.rows) ∙ ap (plus (bag_of more)) (bag_with rows)))
      ∙ grouped-undefined by calls (more ++ (rows ++ over.rows))
      (none_behind by calls (begun_groups by calls) more (rows ++ over.rows) (groups_with rows ∙ none))
  taken_in rows (Err OutOfMemory) new none = tt

  pub rows_given : (r : Result (Vec Row Global) EvalFault) → GivesListed r (listed calls (entries groups))
      → GivesRows r (grouped by calls b)
  rows_given r given =
      let meant : grouped by calls b ≡ option_map bag_of (listed calls (entries groups)) =
      ap (grouped by calls) (sym over.bag_is) ∙ grouped-listed by calls over.rows groups over.groups_are in
      bag_given r _ _ given meant
