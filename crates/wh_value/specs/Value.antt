-- Values, rows and their order.
--     Value           NULL, a whole number, a truth value, or a text by its UTF-8 bytes
--     value_cmp       numbers by size, FALSE before TRUE, texts by bytes, and NULL last;
--                     between the kinds in this order
--     Row, row_cmp    values from left to right, and their order
--     ordered_by      the elements of a list in an order; in_order, rows in the row order
--     IsValue         what a table may hold: 18 digits at most, and texts of UTF-8 up to 65,536 bytes
--     literal         how a value is printed
use Rattle.std.specs.Prelude.{◌≡◌, ℕ, ◌<◌, ◌≤◌, Bool, true, false, List, [], ◌∷◌, ◌++◌, ℤ, ◌⊎◌, ◌==◌, if◌then◌else◌}
use Rattle.std.specs.Prelude.{unsigned_abs, length, codes, IsUtf8, refl, Option, Some, None}
use Rattle.std.specs.List.{flat_map, AllByRecursion}
use Rattle.std.specs.declared.cmp.Ordering.{Ordering}
use Rattle.std.specs.declared.cmp.Ordering.TheVariants.{Less, Equal, Greater}
use Rattle.std.specs.Ordering.{nat_cmp, int_cmp, bool_cmp, is_gt}
use Rattle.std.specs.Cmp.Lexicographic.{slice_cmp}
use Rattle.std.specs.Fmt.{signed_decimal}
use Rattle.std.specs.Coded.{Coded, code_by, coded_ℕ, coded_ℤ, coded_bool, coded_list, coded⊎, coded_option}
use Rattle.std.proofs.Common.{inl, inr}

pub data Value : Type 0 where
  Number : ℤ → Value
  Truth : Bool → Value
  Text : List ℕ → Value
  Null : Value

abbrev pub value_cmp : Value → Value → Ordering
value_cmp (Number a) (Number b) = int_cmp a b
value_cmp (Number a) (Truth b) = Less
value_cmp (Number a) (Text b) = Less
value_cmp (Number a) Null = Less
value_cmp (Truth a) (Number b) = Greater
value_cmp (Truth a) (Truth b) = bool_cmp a b
value_cmp (Truth a) (Text b) = Less
value_cmp (Truth a) Null = Less
value_cmp (Text a) (Number b) = Greater
value_cmp (Text a) (Truth b) = Greater
value_cmp (Text a) (Text b) = slice_cmp nat_cmp a b
value_cmp (Text a) Null = Less
value_cmp Null (Number b) = Greater
value_cmp Null (Truth b) = Greater
value_cmp Null (Text b) = Greater
value_cmp Null Null = Equal

abbrev pub Row : Type 0
Row = List Value

abbrev pub row_cmp : Row → Row → Ordering
row_cmp = slice_cmp value_cmp

-- elements in an order: each goes before the first that isn't less
abbrev pub placed_by : {X : Type 0} → (X → X → Ordering) → X → List X → List X
placed_by cmp x [] = x ∷ []
placed_by cmp x (y ∷ ys) = if is_gt (cmp x y) then y ∷ placed_by cmp x ys else x ∷ y ∷ ys

abbrev pub ordered_by : {X : Type 0} → (X → X → Ordering) → List X → List X
ordered_by cmp [] = []
ordered_by cmp (x ∷ xs) = placed_by cmp x (ordered_by cmp xs)

abbrev pub in_order : List Row → List Row
in_order rows = ordered_by row_cmp rows

-- a text that a value or a name may be
pub record IsText (bytes : List ℕ) : Type 0 where
  pub utf8 : IsUtf8 bytes
  pub short : length bytes ≤ 65536

-- a number has at most 18 digits
abbrev pub IsValue : Value → Type 0
IsValue (Number z) = unsigned_abs z < 1000000000000000000
IsValue (Truth b) = Unit {0}
IsValue (Text bytes) = IsText bytes
IsValue Null = Unit {0}

abbrev pub IsRow : Row → Type 0
IsRow row = AllByRecursion IsValue row

-- a quote in a text is doubled
abbrev pub quoted_byte : ℕ → List ℕ
quoted_byte b = if b == 39 then 39 ∷ 39 ∷ [] else b ∷ []

abbrev pub literal : Value → List ℕ
literal (Number z) = signed_decimal z
literal (Truth true) = codes "TRUE"
literal (Truth false) = codes "FALSE"
literal (Text bytes) = 39 ∷ flat_map quoted_byte bytes ++ 39 ∷ []
literal Null = codes "NULL"

abbrev parts : Value → Option (ℤ ⊎ (Bool ⊎ List ℕ))
parts (Number z) = Some (inl z)
parts (Truth b) = Some (inr (inl b))
parts (Text bytes) = Some (inr (inr bytes))
parts Null = None

abbrev whole : Option (ℤ ⊎ (Bool ⊎ List ℕ)) → Value
whole (Some (inl z)) = Number z
whole (Some (inr (inl b))) = Truth b
whole (Some (inr (inr bytes))) = Text bytes
whole None = Null

pub whole_parts : (v : Value) → whole (parts v) ≡ v
whole_parts (Number z) = refl
whole_parts (Truth b) = refl
whole_parts (Text bytes) = refl
whole_parts Null = refl

-- so that a value can be what contracts see of a struct
abbrev pub coded_value : Coded Value
coded_value = code_by (Option (ℤ ⊎ (Bool ⊎ List ℕ)))
    (coded_option (coded⊎ coded_ℤ (coded⊎ coded_bool (coded_list coded_ℕ)))) parts whole whole_parts
