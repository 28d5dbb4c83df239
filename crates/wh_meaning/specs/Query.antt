-- What a query means.
--     Query, Call      the six operators, and the calls of a Group
--     eval             the bag of a query over the bags of its sources; None where it is undefined
use Rattle.std.specs.Prelude.{ℕ, zero, suc, Bool, true, false, ℤ, pos, ◌+ℤ◌, if◌then◌else◌, List, [], ◌∷◌, ◌++◌, Option}
use Rattle.std.specs.Prelude.{Some, None, option_map, slice_get, unwrap_or}
use Rattle.std.specs.FinMap.{keys}
use Rattle.std.specs.Ordering.{is_eq}
use Rattle.wh_value.specs.Value.{Value, Number, Truth, Text, Null, Row, row_cmp}
use Rattle.wh_meaning.specs.Scalar.{Scalar, val, ranged, is_true, of_one, of_two}
use Rattle.wh_meaning.specs.Bag.{Bag, no_rows, one_row, plus, beside, gathered, restricted, fold_bag}

pub data Call : Type 0 where
  Sum : Scalar → Call
  CountRows : Call
  Count : Scalar → Call

-- a Join's scalar sees the left row's columns and then the right one's; a Group gives its keys and then its calls
pub data Query : Type 0 where
  Scan : (source : ℕ) → Query
  Filter : Query → Scalar → Query
  Project : Query → List Scalar → Query
  Join : Query → Query → Scalar → Query
  UnionAll : Query → Query → Query
  Group : Query → List Scalar → List Call → Query

-- the bag of each source
abbrev pub Instance : Type 0
Instance = List Bag

abbrev pub source_in : Instance → ℕ → Bag
source_in instance place = unwrap_or (slice_get instance place) no_rows

-- ---- Filter, Project, Join

abbrev pub if_true : Row → Value → Bag
if_true row v = if is_true v then one_row row else no_rows

-- the row itself where a condition is TRUE on it
abbrev pub kept_by : Scalar → Row → Option Bag
kept_by condition row = option_map (if_true row) (val condition row)

abbrev pub with_value : Option Value → Option Row → Option Row
with_value first rest = of_two (λ v row. Some (v ∷ row)) first rest

-- the values of scalars on a row
unfoldable pub values_on : List Scalar → Row → Option Row
values_on [] row = Some []
values_on (e ∷ es) row = with_value (val e row) (values_on es row)

abbrev pub image_by : List Scalar → Row → Option Bag
image_by items row = option_map one_row (values_on items row)

abbrev pub filtered : Scalar → Bag → Option Bag
filtered condition b = gathered (kept_by condition) b

abbrev pub projected : List Scalar → Bag → Option Bag
projected items b = gathered (image_by items) b

-- each pair of a left and a right row on which the condition is TRUE, as often as both are there
abbrev pub paired_with : Scalar → Bag → Row → Option Bag
paired_with on right l = gathered (λ r. kept_by on (l ++ r)) right

abbrev pub joined : Scalar → Bag → Bag → Option Bag
joined on left right = gathered (paired_with on right) left

-- ---- Group

-- numbers that aren't NULL: their sum, and how many there are
pub record Total : Type 0 where
  pub sum : ℤ
  pub values : ℕ

abbrev pub with_number : Value → Total → Total
with_number (Number z) t = record { sum = z +ℤ t.sum; values = suc t.values }
with_number (Truth b) t = record t { values = suc t.values }
with_number (Text bytes) t = record t { values = suc t.values }
with_number Null t = t

abbrev pub with_argument : Option Value → Option Total → Option Total
with_argument argument total = of_two (λ v t. Some (with_number v t)) argument total

abbrev pub total_of : Scalar → Bag → Option Total
total_of e b = fold_bag (λ row t. with_argument (val e row) t) (Some (record { sum = pos 0; values = 0 })) b

abbrev pub rows_in : Bag → ℕ
rows_in b = fold_bag (λ row n. suc n) 0 b

abbrev pub count_value : ℕ → Option Value
count_value n = ranged (pos n)

-- SUM of nothing is NULL; its limit is looked at once, over all rows
abbrev pub sum_value : ℤ → ℕ → Option Value
sum_value sum zero = Some Null
sum_value sum (suc n) = ranged sum

-- a call over the rows of a group
unfoldable pub call_over : Bag → Call → Option Value
call_over b (Sum e) = of_one (λ t. sum_value t.sum t.values) (total_of e b)
call_over b CountRows = count_value (rows_in b)
call_over b (Count e) = of_one (λ t. count_value t.values) (total_of e b)

abbrev pub calls_over : Bag → List Call → Option Row
calls_over b [] = Some []
calls_over b (call ∷ calls) = with_value (call_over b call) (calls_over b calls)

abbrev pub is_row : Row → Option Row → Bool
is_row key None = false
is_row key (Some row) = is_eq (row_cmp key row)

-- the rows of a bag that have a key
abbrev pub with_key : List Scalar → Row → Bag → Bag
with_key by key b = restricted (λ row. is_row key (values_on by row)) b

abbrev pub group_row : List Scalar → List Call → Bag → Row → Option Bag
group_row by calls b key = option_map (λ values. one_row (key ++ values)) (calls_over (with_key by key b) calls)

abbrev pub group_rows : List Scalar → List Call → Bag → List Row → Option Bag
group_rows by calls b [] = Some no_rows
group_rows by calls b (key ∷ rest) = beside (group_row by calls b key) (group_rows by calls b rest)

-- the distinct keys among the keys of all rows; without keys there is exactly one group
abbrev pub distinct : List Scalar → Bag → List Row
distinct [] keyed = [] ∷ []
distinct (e ∷ es) keyed = keys keyed

abbrev pub grouped : List Scalar → List Call → Bag → Option Bag
grouped by calls b = of_one (λ keyed. group_rows by calls b (distinct by keyed)) (projected by b)

-- ---- the query

unfoldable pub eval : Query → Instance → Option Bag
eval (Scan source) instance = Some (source_in instance source)
eval (Filter q condition) instance = of_one (filtered condition) (eval q instance)
eval (Project q items) instance = of_one (projected items) (eval q instance)
eval (Join left right on) instance = of_two (joined on) (eval left instance) (eval right instance)
eval (UnionAll left right) instance = of_two (λ a b. Some (plus a b)) (eval left instance) (eval right instance)
eval (Group q by calls) instance = of_one (grouped by calls) (eval q instance)
