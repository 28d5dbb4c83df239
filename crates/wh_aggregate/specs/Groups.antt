-- Groups to which rows are added: each row goes to the group of its key, from the last row to the first.
--     Groups            the totals of calls by key
--     begun_groups      the groups of no rows: without keys there is one
--     added             groups with rows more; None where a key or an argument has no value
--     AreOver           groups are those of the rows of a bag
--     TakesIn           what adding rows answers and leaves: where it stops, no more rows give the calls a value
--     with_totals       the totals at a key, and others taken together with them; the others alone where none are
--     with_group        groups with totals more at a key
--     listed            the rows of groups: each key, and then its answers
use Rattle.std.specs.Prelude.{◌≡◌, List, [], ◌∷◌, ◌++◌, Option, Some, None, option_map, unwrap_or, Result, Ok, Err}
use Rattle.std.specs.FinMap.{FinMap, empty, get, insert}
use Rattle.wh_value.specs.Value.{Row, row_cmp}
use Rattle.wh_meaning.specs.Scalar.{Scalar, of_two}
use Rattle.wh_meaning.specs.Bag.{Bag, bag_of, plus}
use Rattle.wh_meaning.specs.Query.{Call, Total, values_on, grouped}
use Rattle.wh_scalar.specs.declared.fault.EvalFault.{EvalFault}
use Rattle.wh_scalar.specs.declared.fault.EvalFault.TheVariants.{NumberOutOfRange, OutOfMemory}
use Rattle.wh_aggregate.specs.Tally.{begun, tallied, together, answers}

abbrev pub Groups : Type 0
Groups = FinMap row_cmp (List Total)

abbrev pub begun_groups : List Scalar → List Call → Groups
begun_groups [] calls = insert empty [] (begun calls)
begun_groups (e ∷ es) calls = empty

abbrev pub totals_at : List Call → Groups → Row → List Total
totals_at calls groups key = unwrap_or (get groups key) (begun calls)

abbrev pub noted : List Call → Row → Row → Groups → Option Groups
noted calls row key groups = option_map (insert groups key) (tallied calls row (totals_at calls groups key))

abbrev pub added : List Scalar → List Call → Groups → List Row → Option Groups
added by calls groups [] = Some groups
added by calls groups (row ∷ rows) = of_two (noted calls row) (values_on by row) (added by calls groups rows)

abbrev pub groups_of : List Scalar → List Call → List Row → Option Groups
groups_of by calls rows = added by calls (begun_groups by calls) rows

pub record AreOver (by : List Scalar) (calls : List Call) (b : Bag) (groups : Groups) : Type 0 where
  pub rows : List Row
  pub bag_is : bag_of rows ≡ b
  pub groups_are : groups_of by calls rows ≡ Some groups

abbrev pub TakesIn : List Scalar → List Call → List Row → Bag → Result Unit EvalFault → Groups → Type 0
TakesIn by calls rows before (Ok done) new = AreOver by calls (plus (bag_of rows) before) new
TakesIn by calls rows before (Err NumberOutOfRange) new = (more : List Row)
    → grouped by calls (plus (bag_of more) (plus (bag_of rows) before)) ≡ None
TakesIn by calls rows before (Err OutOfMemory) new = Unit {0}

abbrev pub with_totals : Option (List Total) → List Total → List Total
with_totals None more = more
with_totals (Some totals) more = together totals more

abbrev pub with_group : Row → List Total → Groups → Groups
with_group key more groups = insert groups key (with_totals (get groups key) more)

abbrev pub group_row : List Call → Row → List Total → Option Row
group_row calls key totals = option_map (λ values. key ++ values) (answers calls totals)

abbrev pub row_before : Row → List Row → Option (List Row)
row_before row rows = Some (row ∷ rows)

abbrev pub listed : List Call → List (Row × List Total) → Option (List Row)
listed calls [] = Some []
listed calls (e ∷ es) = of_two row_before (group_row calls e.0 e.1) (listed calls es)
