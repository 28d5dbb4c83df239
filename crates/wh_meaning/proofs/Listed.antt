-- What operators give over bags of listed rows, as listed rows, so that known values can be worked out.
--     filtered-listed, joined-listed     Filter and Join
--     argument-turned                    the order in which two rows are added to a total is free
--     call-listed                        a call
--     entries-listed                     the counts of listed rows
--     grouped-listed                     Group
use Rattle.std.specs.Prelude.{◌≡◌, ℕ, suc, Bool, true, false, length, if◌then◌else◌, List, [], ◌∷◌, ◌++◌, map, filter}
use Rattle.std.specs.Prelude.{pos, ◌+ℤ◌, Option, Some, None, option_map}
use Rattle.std.proofs.Common.{arith, refl, sym, ap, ◌∙◌}
use Rattle.std.proofs.lemmas.List.{nil_from_length}
use Rattle.std.proofs.Math.IntN.{+ℤ_assoc, +ℤ_comm}
use Rattle.std.specs.FinMap.{entries, entries-insert, get-entries, find, put, len-entries, len-empty}
use Rattle.wh_value.specs.Value.{Value, Number, Truth, Text, Null, Row, row_cmp}
use Rattle.wh_value.specs.Order.{row_total}
use Rattle.wh_meaning.specs.Scalar.{Scalar, val, is_true, of_one, of_two}
use Rattle.wh_meaning.specs.Bag.{no_rows, with_row, bag_of, times, count, plus, beside}
use Rattle.wh_meaning.specs.Query.{Call, Sum, CountRows, Count, if_true, kept_by, values_on, image_by, filtered}
use Rattle.wh_meaning.specs.Query.{projected, paired_with, joined, Total, with_number, with_argument, total_of, rows_in}
use Rattle.wh_meaning.specs.Query.{count_value, sum_value, call_over, with_value, calls_over, is_row, with_key}
use Rattle.wh_meaning.specs.Query.{group_row, group_rows, distinct, grouped}
use Rattle.wh_meaning.proofs.BagLaws.{fold_list, fold_bag_of, restricted-bag_of, one_row-plus}
use Rattle.wh_meaning.proofs.Gathered.{each, gathered-each}

-- ---- Filter, Project, Join

abbrev pub rows_if_true : Row → Value → List Row
rows_if_true row v = if is_true v then row ∷ [] else []

abbrev pub rows_kept : Scalar → Row → Option (List Row)
rows_kept condition row = option_map (rows_if_true row) (val condition row)

if_true-listed : (row : Row) (v : Value) → if_true row v ≡ bag_of (rows_if_true row v)
if_true-listed row v = elim (is_true v) as (λ t. (if t then with_row row no_rows else no_rows)
    ≡ bag_of (if t then row ∷ [] else [])) [ true ↦ refl | false ↦ refl ]

kept-listed : (condition : Scalar) (row : Row) → kept_by condition row ≡ option_map bag_of (rows_kept condition row)
kept-listed condition row =
    elim (val condition row) as (λ found. option_map (if_true row) found ≡ option_map bag_of
    (option_map (rows_if_true row) found)) [ None ↦ refl | Some v ↦ ap Some (if_true-listed row v) ]

pub filtered-listed : (condition : Scalar) (rows : List Row)
    → filtered condition (bag_of rows) ≡ option_map bag_of (each (rows_kept condition) rows)
filtered-listed condition rows = gathered-each (kept_by condition) (rows_kept condition) (kept-listed condition) rows

abbrev pub images : List Scalar → Row → Option (List Row)
images items row = option_map (λ image. image ∷ []) (values_on items row)

images-listed : (items : List Scalar) (row : Row) → image_by items row ≡ option_map bag_of (images items row)
images-listed items row = elim (values_on items row) as (λ found. option_map (λ image. with_row image no_rows) found
    ≡ option_map bag_of (option_map (λ image. image ∷ []) found)) [ None ↦ refl | Some image ↦ refl ]

pub projected-listed : (items : List Scalar) (rows : List Row)
    → projected items (bag_of rows) ≡ option_map bag_of (each (images items) rows)
projected-listed items rows = gathered-each (image_by items) (images items) (images-listed items) rows

abbrev pub pairs : Scalar → List Row → Row → Option (List Row)
pairs on right l = each (λ r. rows_kept on (l ++ r)) right

pub joined-listed : (on : Scalar) (left right : List Row)
    → joined on (bag_of left) (bag_of right) ≡ option_map bag_of (each (pairs on right) left)
joined-listed on left right =
    gathered-each (paired_with on (bag_of right)) (pairs on right)
    (λ l. gathered-each (λ r. kept_by on (l ++ r)) (λ r. rows_kept on (l ++ r)) (λ r. kept-listed on (l ++ r)) right)
    left

-- ---- calls

abbrev pub nothing_yet : Total
nothing_yet = record { sum = pos 0; values = 0 }

number-turned : (v w : Value) (t : Total) → with_number v (with_number w t) ≡ with_number w (with_number v t)
number-turned (Number y) (Number z) t =
    ap (λ sum. record { sum = sum; values = suc (suc t.values) })
    (sym (+ℤ_assoc y z t.sum) ∙ ap (λ both. both +ℤ t.sum) (+ℤ_comm y z) ∙ +ℤ_assoc z y t.sum)
number-turned (Number y) (Truth b) t = refl
number-turned (Number y) (Text b) t = refl
number-turned (Number y) Null t = refl
number-turned (Truth a) (Number z) t = refl
number-turned (Truth a) (Truth b) t = refl
number-turned (Truth a) (Text b) t = refl
number-turned (Truth a) Null t = refl
number-turned (Text a) (Number z) t = refl
number-turned (Text a) (Truth b) t = refl
number-turned (Text a) (Text b) t = refl
number-turned (Text a) Null t = refl
number-turned Null w t = refl

pub argument-turned : (a b : Option Value) (t : Option Total)
    → with_argument a (with_argument b t) ≡ with_argument b (with_argument a t)
argument-turned None None t = refl
argument-turned None (Some w) None = refl
argument-turned None (Some w) (Some t) = refl
argument-turned (Some v) None None = refl
argument-turned (Some v) None (Some t) = refl
argument-turned (Some v) (Some w) None = refl
argument-turned (Some v) (Some w) (Some t) = ap Some (number-turned v w t)

abbrev pub total_in : Scalar → List Row → Option Total
total_in e rows = fold_list (λ row t. with_argument (val e row) t) (Some nothing_yet) rows

total-listed : (e : Scalar) (rows : List Row) → total_of e (bag_of rows) ≡ total_in e rows
total-listed e rows = fold_bag_of (λ row t. with_argument (val e row) t) (Some nothing_yet)
    (λ x y t. argument-turned (val e x) (val e y) t) rows

-- a call over listed rows
abbrev pub call_in : List Row → Call → Option Value
call_in rows (Sum e) = of_one (λ t. sum_value t.sum t.values) (total_in e rows)
call_in rows CountRows = count_value (fold_list (λ row n. suc n) 0 rows)
call_in rows (Count e) = of_one (λ t. count_value t.values) (total_in e rows)

pub call-listed : (rows : List Row) (call : Call) → call_over (bag_of rows) call ≡ call_in rows call
unfolding call_over
call-listed rows (Sum e) = ap (of_one (λ t. sum_value t.sum t.values)) (total-listed e rows)
call-listed rows CountRows = ap count_value (fold_bag_of (λ row n. suc n) 0 (λ x y n. refl) rows)
call-listed rows (Count e) = ap (of_one (λ t. count_value t.values)) (total-listed e rows)

abbrev pub calls_in : List Row → List Call → Option Row
calls_in rows [] = Some []
calls_in rows (call ∷ calls) = with_value (call_in rows call) (calls_in rows calls)

calls-listed : (rows : List Row) (calls : List Call) → calls_over (bag_of rows) calls ≡ calls_in rows calls
calls-listed rows [] = refl
calls-listed rows (call ∷ calls) = ap (λ first. with_value first (calls_over (bag_of rows) calls))
    (call-listed rows call) ∙ ap (with_value (call_in rows call)) (calls-listed rows calls)

-- ---- Group

abbrev pub counts_in : List Row → List (Row × ℕ)
counts_in [] = []
counts_in (row ∷ rows) = put row_cmp row (times (find row_cmp row (counts_in rows))) (counts_in rows)

pub entries-listed : (rows : List Row) → entries (bag_of rows) ≡ counts_in rows
entries-listed [] = nil_from_length (entries no_rows) (sym (len-entries no_rows) ∙ len-empty row_cmp ℕ)
entries-listed (row ∷ rows) =
    entries-insert row_total (bag_of rows) row (count (bag_of rows) row)
    ∙ ap (λ found. put row_cmp row (times found) (entries (bag_of rows))) (get-entries (bag_of rows) row)
    ∙ ap (λ es. put row_cmp row (times (find row_cmp row es)) es) (entries-listed rows)

abbrev pub rows_with : List Scalar → Row → List Row → List Row
rows_with by key rows = filter (λ row. is_row key (values_on by row)) rows

abbrev pub group_in : List Scalar → List Call → List Row → Row → Option Row
group_in by calls rows key = option_map (λ values. key ++ values) (calls_in (rows_with by key rows) calls)

abbrev pub groups_in : List Scalar → List Call → List Row → List Row → Option (List Row)
groups_in by calls rows [] = Some []
groups_in by calls rows (key ∷ rest) =
    of_two (λ group groups. Some (group ∷ groups)) (group_in by calls rows key) (groups_in by calls rows rest)

group-listed : (by : List Scalar) (calls : List Call) (rows : List Row) (key : Row) →
    group_row by calls (bag_of rows) key ≡ option_map (λ group. with_row group no_rows) (group_in by calls rows key)
group-listed by calls rows key =
    ap (λ b. option_map (λ values. with_row (key ++ values) no_rows) (calls_over b calls))
    (restricted-bag_of (λ row. is_row key (values_on by row)) rows)
    ∙ ap (option_map (λ values. with_row (key ++ values) no_rows)) (calls-listed (rows_with by key rows) calls)
    ∙ elim (calls_in (rows_with by key rows) calls) as (λ found. option_map (λ values. with_row (key ++ values) no_rows)
    found ≡ option_map (λ group. with_row group no_rows) (option_map (λ values. key ++ values) found)) [
      | None ↦ refl
      | Some values ↦ refl
    ]

first-beside : (a : Option Row) (rest : Option (List Row)) →
    of_two (λ x y. Some (plus x y)) (option_map (λ group. with_row group no_rows) a) (option_map bag_of rest)
    ≡ option_map bag_of (of_two (λ group groups. Some (group ∷ groups)) a rest)
first-beside None rest = refl
first-beside (Some a) None = refl
first-beside (Some a) (Some rest) = ap Some (one_row-plus a (bag_of rest))

groups-listed : (by : List Scalar) (calls : List Call) (rows : List Row) (keys : List Row)
    → group_rows by calls (bag_of rows) keys ≡ option_map bag_of (groups_in by calls rows keys)
groups-listed by calls rows [] = refl
groups-listed by calls rows (key ∷ rest) =
    ap (λ first. beside first (group_rows by calls (bag_of rows) rest)) (group-listed by calls rows key)
    ∙ ap (beside (option_map (λ group. with_row group no_rows) (group_in by calls rows key)))
    (groups-listed by calls rows rest)
    ∙ first-beside (group_in by calls rows key) (groups_in by calls rows rest)

abbrev pub keys_in : List Scalar → List Row → List Row
keys_in [] keyed = [] ∷ []
keys_in (e ∷ es) keyed = map (λ e. e.0) (counts_in keyed)

distinct-listed : (by : List Scalar) (keyed : List Row) → distinct by (bag_of keyed) ≡ keys_in by keyed
distinct-listed [] keyed = refl
distinct-listed (e ∷ es) keyed = ap (map (λ e. e.0)) (entries-listed keyed)

abbrev pub grouped_in : List Scalar → List Call → List Row → Option (List Row)
grouped_in by calls rows = of_one (λ keyed. groups_in by calls rows (keys_in by keyed)) (each (images by) rows)

pub grouped-listed : (by : List Scalar) (calls : List Call) (rows : List Row)
    → grouped by calls (bag_of rows) ≡ option_map bag_of (grouped_in by calls rows)
grouped-listed by calls rows =
    ap (of_one (λ keyed. group_rows by calls (bag_of rows) (distinct by keyed))) (projected-listed by rows)
    ∙ elim (each (images by) rows)
    as (λ found. of_one (λ keyed. group_rows by calls (bag_of rows) (distinct by keyed)) (option_map bag_of found)
    ≡ option_map bag_of (of_one (λ keyed. groups_in by calls rows (keys_in by keyed)) found)) [
      | None ↦ refl
      | Some keyed ↦ ap (group_rows by calls (bag_of rows)) (distinct-listed by keyed)
          ∙ groups-listed by calls rows (keys_in by keyed)
    ]
