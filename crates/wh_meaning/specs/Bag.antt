-- Bags: rows with counts.
--     Bag              a finite map from rows to counts above 0, each kept less one, so that
--                      equal counts are equal bags
--     count            how often a row is in a bag
--     with_row         a bag with a row once more
--     bag_of           the bag of listed rows
--     fold_bag         an operation for each row of a bag, as often as the row is there
--     plus             counts added
--     gathered         the sum of what each row of a bag gives; None where one of them gives nothing
--     restricted       the rows that meet a test
use Rattle.std.specs.Prelude.{ℕ, zero, suc, ◌+◌, Bool, List, [], ◌∷◌, Option, Some, None}
use Rattle.std.specs.FinMap.{FinMap, empty, get, insert, entries, retain_keys}
use Rattle.wh_value.specs.Value.{Row, row_cmp}
use Rattle.wh_meaning.specs.Scalar.{of_two}

abbrev pub Bag : Type 0
Bag = FinMap row_cmp ℕ

abbrev pub no_rows : Bag
no_rows = empty

abbrev pub times : Option ℕ → ℕ
times None = 0
times (Some n) = suc n

abbrev pub count : Bag → Row → ℕ
count b row = times (get b row)

abbrev pub with_row : Row → Bag → Bag
with_row row b = insert b row (count b row)

abbrev pub one_row : Row → Bag
one_row row = with_row row no_rows

abbrev pub bag_of : List Row → Bag
bag_of [] = no_rows
bag_of (row ∷ rows) = with_row row (bag_of rows)

abbrev pub again : {A : Type 0} → ℕ → (A → A) → A → A
again zero f x = x
again (suc n) f x = f (again n f x)

abbrev pub over_entries : {A : Type 0} → (Row → A → A) → A → List (Row × ℕ) → A
over_entries op z [] = z
over_entries op z (e ∷ es) = again (suc e.1) (op e.0) (over_entries op z es)

unfoldable pub fold_bag : {A : Type 0} → (Row → A → A) → A → Bag → A
fold_bag op z b = over_entries op z (entries b)

abbrev pub plus : Bag → Bag → Bag
plus a b = fold_bag with_row b a

-- two parts together, where both are there
abbrev pub beside : Option Bag → Option Bag → Option Bag
beside a b = of_two (λ x y. Some (plus x y)) a b

abbrev pub gathered : (Row → Option Bag) → Bag → Option Bag
gathered f b = fold_bag (λ row found. beside (f row) found) (Some no_rows) b

abbrev pub restricted : (Row → Bool) → Bag → Bag
restricted test b = retain_keys b test
