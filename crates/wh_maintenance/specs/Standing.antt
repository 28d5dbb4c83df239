-- What the calls of a group have added up.
--     Standing         of a group: its rows, and each call's total; a count has the sum 0
--     standing         of the rows of a group; None where an argument has no value
--     moved            after rows came and rows went
--     answers          the values of the calls
--     Groups           by key
--     IsGroupsOf       those of a bag; a key stands there exactly where a row has it
--     shown            the row of a group
use Rattle.std.specs.Prelude.{◌≡◌, ◌≢◌, ◌⊎◌, ℕ, zero, suc, ◌+◌, ◌-◌, pos, ◌+ℤ◌, ◌-ℤ◌, List, [], ◌∷◌, ◌++◌, Option}
use Rattle.std.specs.Prelude.{Some, None, option_map, unwrap_or}
use Rattle.std.specs.FinMap.{FinMap, get, keys}
use Rattle.wh_value.specs.Value.{Value, Row, row_cmp}
use Rattle.wh_meaning.specs.Scalar.{Scalar, of_two}
use Rattle.wh_meaning.specs.Bag.{Bag, no_rows, one_row, bag_of, plus, gathered}
use Rattle.wh_meaning.specs.Query.{Call, Sum, CountRows, Count, Total, total_of, rows_in, sum_value, count_value}
use Rattle.wh_meaning.specs.Query.{with_value, with_key, projected}
use Rattle.wh_maintenance.specs.Carried.{Change, sided}

pub record Standing : Type 0 where
  pub rows : ℕ
  pub totals : List Total

abbrev pub no_sum : Total → Total
no_sum t = record t { sum = pos 0 }

abbrev pub call_total : Bag → Call → Option Total
call_total b (Sum e) = total_of e b
call_total b CountRows = Some (record { sum = pos 0; values = rows_in b })
call_total b (Count e) = option_map no_sum (total_of e b)

abbrev pub before : Total → List Total → Option (List Total)
before t ts = Some (t ∷ ts)

abbrev pub calls_total : Bag → List Call → Option (List Total)
calls_total b [] = Some []
calls_total b (call ∷ calls) = of_two before (call_total b call) (calls_total b calls)

abbrev pub standing : List Call → Bag → Option Standing
standing calls b = option_map (λ totals. record { rows = rows_in b; totals = totals }) (calls_total b calls)

-- ---- rows that come and rows that go

abbrev pub moved_total : Total → Total → Total → Total
moved_total t came went =
    record { sum = (t.sum +ℤ came.sum) -ℤ went.sum; values = (t.values + came.values) - went.values }

abbrev pub moved_totals : List Total → List Total → List Total → List Total
moved_totals (t ∷ ts) (came ∷ cs) (went ∷ ws) = moved_total t came went ∷ moved_totals ts cs ws
moved_totals _ _ _ = []

abbrev pub moved : Standing → Standing → Standing → Standing
moved s came went =
    record { rows = (s.rows + came.rows) - went.rows; totals = moved_totals s.totals came.totals went.totals }

-- ---- answers

abbrev pub answer : Call → Total → Option Value
answer (Sum e) t = sum_value t.sum t.values
answer CountRows t = count_value t.values
answer (Count e) t = count_value t.values

abbrev pub answers : List Call → List Total → Option Row
answers [] ts = Some []
answers (call ∷ calls) [] = Some []
answers (call ∷ calls) (t ∷ ts) = with_value (answer call t) (answers calls ts)

-- ---- groups

abbrev pub Groups : Type 0
Groups = FinMap row_cmp Standing

abbrev pub IsStandingOf : List Call → Option Standing → Bag → Type 0
IsStandingOf calls None b = rows_in b ≡ 0
IsStandingOf calls (Some s) b = (rows_in b ≢ 0) × (standing calls b ≡ Some s)

pub record IsGroupsOf (by : List Scalar) (calls : List Call) (b : Bag) (groups : Groups) : Type 0 where
  pub keyed : Bag
  pub keys_are : projected by b ≡ Some keyed
  pub stand : (k : Row) → IsStandingOf calls (get groups k) (with_key by k b)

abbrev pub nothing_yet : Total
nothing_yet = record { sum = pos 0; values = 0 }

abbrev pub begun : List Call → List Total
begun [] = []
begun (call ∷ calls) = nothing_yet ∷ begun calls

-- a key that isn't there has no rows
abbrev pub standing_at : List Call → Option Standing → Standing
standing_at calls found = unwrap_or found (record { rows = 0; totals = begun calls })

-- a group without rows is gone
abbrev pub left_by : ℕ → Standing → Option Standing
left_by zero s = None
left_by (suc n) s = Some s

abbrev pub if_left : Standing → Option Standing
if_left s = left_by s.rows s

-- what stands at a key, after what stood there and what the rows that come and go add up to
abbrev pub IsMoved : List Call → Option Standing → Option Standing → Option Standing → Option Standing → Type 0
IsMoved calls was (Some came) (Some went) now = now ≡ if_left (moved (standing_at calls was) came went)
IsMoved calls was _ _ now = ⊥

-- or no row of the key comes or goes, and what stood there stands
abbrev pub IsMovedAt : List Scalar → List Call → Change → Row → Option Standing → Option Standing → Type 0
IsMovedAt by calls c k was now =
    ((rows_in (with_key by k c.comes) ≡ 0) × (rows_in (with_key by k c.goes) ≡ 0) × (now ≡ was))
    ⊎ IsMoved calls was (standing calls (with_key by k c.comes)) (standing calls (with_key by k c.goes)) now

abbrev pub shown : List Call → Row → Option Standing → Option Bag
shown calls k None = Some no_rows
shown calls k (Some s) = option_map (λ values. one_row (k ++ values)) (answers calls s.totals)

-- what an update finds: a row that comes lacks its key or an argument, or the groups afterwards and their rows
pub record IsMovedTo (by : List Scalar) (calls : List Call) (c : Change) (groups groups' : Groups)
    (found : Option Change) : Type 0 where
  pub came : Bag
  pub went : Bag
  pub came_is : projected by c.comes ≡ Some came
  pub went_is : projected by c.goes ≡ Some went
  pub moves : (k : Row) → IsMovedAt by calls c k (get groups k) (get groups' k)
  pub found_is : found ≡ sided (gathered (λ k. shown calls k (get groups' k)) (bag_of (keys (plus came went))))
      (gathered (λ k. shown calls k (get groups k)) (bag_of (keys (plus came went))))

abbrev pub LacksKey : List Scalar → Change → Type 0
LacksKey by c = projected by c.comes ≡ None

abbrev pub LacksArgument : List Scalar → List Call → Change → Type 0
LacksArgument by calls c = (k : Row) × (standing calls (with_key by k c.comes) ≡ None)
