-- The types of scalars, by their heads.
--     OfType, FitsTypes     a value and a row of types; None is that of NULL
--     type_at, cell_fits    the type at a place, and what stands there
--     head_type, val_fits   the type that a scalar's values have
--     types_of, fits_row    rows of columns
use Rattle.std.proofs.Common.{◌≡◌, ℕ, zero, suc, Bool, true, false, cond, List, [], ◌∷◌, ◌++◌}
use Rattle.std.proofs.Common.{map, Option, Some, None, refl, subst, IsTrue}
use Rattle.std.specs.Prelude.{slice_get, unwrap_or, ◌&&◌, ◌||◌, ℤ, ◌+ℤ◌, ◌-ℤ◌, ◌*ℤ◌, neg_ℤ, nat_lt, unsigned_abs}
use Rattle.wh_value.specs.Value.{Value, Number, Truth, Text, Null, Row, value_cmp}
use Rattle.wh_value.specs.Column as table
use Rattle.wh_value.specs.Column.{ColumnType, NumberType, VarcharType, BooleanType}
use Rattle.wh_value.specs.Fits.{fits, row_fits}
use Rattle.wh_value.specs.declared.comparison.Comparison.{Comparison}
use Rattle.wh_meaning.specs.Scalar.{Scalar, Const, Column, Neg, Add, Sub, Mul, Compare, And, Or, Not, IsNull, val}
use Rattle.wh_meaning.specs.Scalar.{ranged, computed, negated, compared, conjoined, disjoined, inverted, is_null}
use Rattle.wh_meaning.specs.Scalar.{is_true}
use Rattle.wh_meaning.specs.Scalar.{is_false, of_one, of_two, meets}
use Rattle.wh_naming.specs.Typing.{value_type}

abbrev pub OfType : Option ColumnType → Value → Type 0
OfType None v = v ≡ Null
OfType (Some t) v = IsTrue (fits t v)

pub null_fits : (t : Option ColumnType) → OfType t Null
null_fits None = refl
null_fits (Some NumberType) = refl
null_fits (Some VarcharType) = refl
null_fits (Some BooleanType) = refl

abbrev pub FitsTypes : List (Option ColumnType) → Row → Type 0
FitsTypes [] [] = Unit {0}
FitsTypes [] (v ∷ vs) = ⊥
FitsTypes (t ∷ ts) [] = ⊥
FitsTypes (t ∷ ts) (v ∷ vs) = OfType t v × FitsTypes ts vs

-- beyond them a number, as calls give
abbrev pub type_or : Option (Option ColumnType) → Option ColumnType
type_or None = Some NumberType
type_or (Some t) = t

abbrev pub type_at : List (Option ColumnType) → ℕ → Option ColumnType
type_at types place = type_or (slice_get types place)

abbrev pub cell : Row → ℕ → Value
cell row place = unwrap_or (slice_get row place) Null

abbrev pub CellsFit : (ℕ → Option ColumnType) → Row → Type 0
CellsFit types row = (place : ℕ) → OfType (types place) (cell row place)

pub cells_fit : (types : List (Option ColumnType)) (row : Row) → FitsTypes types row → CellsFit (type_at types) row
cells_fit [] [] h place = refl
cells_fit [] (v ∷ vs) h place = absurd h
cells_fit (t ∷ ts) [] h place = absurd h
cells_fit (t ∷ ts) (v ∷ vs) h zero = h.0
cells_fit (t ∷ ts) (v ∷ vs) h (suc place) = cells_fit ts vs h.1 place

pub fits_append : (ts us : List (Option ColumnType)) (l r : Row) → FitsTypes ts l → FitsTypes us r
    → FitsTypes (ts ++ us) (l ++ r)
fits_append [] us [] r h k = k
fits_append [] us (v ∷ vs) r h k = absurd h
fits_append (t ∷ ts) us [] r h k = absurd h
fits_append (t ∷ ts) us (v ∷ vs) r h k = (h.0, fits_append ts us vs r h.1 k)

-- ---- the type of a scalar

abbrev pub head_type : (ℕ → Option ColumnType) → Scalar → Option ColumnType
head_type types (Const v) = value_type v
head_type types (Column place) = types place
head_type types (Neg a) = Some NumberType
head_type types (Add a b) = Some NumberType
head_type types (Sub a b) = Some NumberType
head_type types (Mul a b) = Some NumberType
head_type types (Compare c a b) = Some BooleanType
head_type types (And a b) = Some BooleanType
head_type types (Or a b) = Some BooleanType
head_type types (Not a) = Some BooleanType
head_type types (IsNull a) = Some BooleanType

const_fits : (v : Value) → OfType (value_type v) v
const_fits (Number z) = refl
const_fits (Truth b) = refl
const_fits (Text bytes) = refl
const_fits Null = refl

abbrev pub GivesType : Option ColumnType → Option Value → Type 0
GivesType t found = (v : Value) → found ≡ Some v → OfType t v

pub some_gives : (t : Option ColumnType) (x : Value) → OfType t x → GivesType t (Some x)
some_gives t x h v is = let same : x ≡ v = cc in subst (OfType t) same h

pub ranged_gives : (z : ℤ) → GivesType (Some NumberType) (ranged z)
ranged_gives z = by_test (nat_lt (unsigned_abs z) 1000000000000000000)
  where
    by_test : (b : Bool) → GivesType (Some NumberType) (cond b (Some (Number z)) None)
    by_test true v is = some_gives (Some NumberType) (Number z) refl v is
    by_test false v is = absurd cc

computed_gives : (op : ℤ → ℤ → ℤ) (a b : Value) → GivesType (Some NumberType) (computed op a b)
computed_gives op (Number a) (Number b) = ranged_gives (op a b)
computed_gives op (Number a) (Truth b) = some_gives (Some NumberType) Null refl
computed_gives op (Number a) (Text b) = some_gives (Some NumberType) Null refl
computed_gives op (Number a) Null = some_gives (Some NumberType) Null refl
computed_gives op (Truth a) b = some_gives (Some NumberType) Null refl
computed_gives op (Text a) b = some_gives (Some NumberType) Null refl
computed_gives op Null b = some_gives (Some NumberType) Null refl

negated_gives : (a : Value) → GivesType (Some NumberType) (negated a)
negated_gives (Number a) = ranged_gives (neg_ℤ a)
negated_gives (Truth a) = some_gives (Some NumberType) Null refl
negated_gives (Text a) = some_gives (Some NumberType) Null refl
negated_gives Null = some_gives (Some NumberType) Null refl

cond_truth : (b : Bool) (x y : Value) → OfType (Some BooleanType) x → OfType (Some BooleanType) y
    → OfType (Some BooleanType) (cond b x y)
cond_truth true x y h k = h
cond_truth false x y h k = k

compared_truth : (c : Comparison) (a b : Value) → OfType (Some BooleanType) (compared c a b)
compared_truth c a b = cond_truth (is_null a || is_null b) Null (Truth (meets c (value_cmp a b))) refl refl

conjoined_truth : (a b : Value) → OfType (Some BooleanType) (conjoined a b)
conjoined_truth a b =
    cond_truth (is_false a || is_false b) (Truth false) (cond (is_true a && is_true b) (Truth true) Null) refl
    (cond_truth (is_true a && is_true b) (Truth true) Null refl refl)

disjoined_truth : (a b : Value) → OfType (Some BooleanType) (disjoined a b)
disjoined_truth a b =
    cond_truth (is_true a || is_true b) (Truth true) (cond (is_false a && is_false b) (Truth false) Null) refl
    (cond_truth (is_false a && is_false b) (Truth false) Null refl refl)

inverted_truth : (a : Value) → OfType (Some BooleanType) (inverted a)
inverted_truth (Truth a) = refl
inverted_truth (Number a) = refl
inverted_truth (Text a) = refl
inverted_truth Null = refl

one_gives : (t : Option ColumnType) (f : Value → Option Value) (a : Option Value) → ((x : Value) → GivesType t (f x))
    → GivesType t (of_one f a)
one_gives t f None h v is = absurd cc
one_gives t f (Some x) h v is = h x v is

two_give : (t : Option ColumnType) (f : Value → Value → Option Value) (a b : Option Value)
    → ((x y : Value) → GivesType t (f x y)) → GivesType t (of_two f a b)
two_give t f None b h v is = absurd cc
two_give t f (Some x) None h v is = absurd cc
two_give t f (Some x) (Some y) h v is = h x y v is

-- whatever its parts are
pub val_fits : (types : ℕ → Option ColumnType) (s : Scalar) (row : Row) → CellsFit types row
    → (v : Value) → val s row ≡ Some v → OfType (head_type types s) v
unfolding val
val_fits types (Const c) row h = some_gives (value_type c) c (const_fits c)
val_fits types (Column place) row h = some_gives (types place) (cell row place) (h place)
val_fits types (Neg a) row h = one_gives (Some NumberType) negated (val a row) negated_gives
val_fits types (Add a b) row h =
    two_give (Some NumberType) (computed (λ x y. x +ℤ y)) (val a row) (val b row) (computed_gives (λ x y. x +ℤ y))
val_fits types (Sub a b) row h =
    two_give (Some NumberType) (computed (λ x y. x -ℤ y)) (val a row) (val b row) (computed_gives (λ x y. x -ℤ y))
val_fits types (Mul a b) row h =
    two_give (Some NumberType) (computed (λ x y. x *ℤ y)) (val a row) (val b row) (computed_gives (λ x y. x *ℤ y))
val_fits types (Compare c a b) row h = two_give (Some BooleanType) (λ x y. Some (compared c x y))
    (val a row) (val b row)
    (λ x y. some_gives (Some BooleanType) (compared c x y) (compared_truth c x y))
val_fits types (And a b) row h = two_give (Some BooleanType) (λ x y. Some (conjoined x y)) (val a row) (val b row)
    (λ x y. some_gives (Some BooleanType) (conjoined x y) (conjoined_truth x y))
val_fits types (Or a b) row h = two_give (Some BooleanType) (λ x y. Some (disjoined x y)) (val a row) (val b row)
    (λ x y. some_gives (Some BooleanType) (disjoined x y) (disjoined_truth x y))
val_fits types (Not a) row h = one_gives (Some BooleanType) (λ x. Some (inverted x)) (val a row)
    (λ x. some_gives (Some BooleanType) (inverted x) (inverted_truth x))
val_fits types (IsNull a) row h = one_gives (Some BooleanType) (λ x. Some (Truth (is_null x))) (val a row)
    (λ x. some_gives (Some BooleanType) (Truth (is_null x)) refl)

-- ---- rows of columns

abbrev pub types_of : List table.Column → List (Option ColumnType)
types_of columns = map (λ c. Some c.column_type) columns

pub both_true : (a b : Bool) → (a && b) ≡ true → (a ≡ true) × (b ≡ true)
both_true true b is = (refl, is)
both_true false b is = absurd cc

pub row_of_columns : (columns : List table.Column) (row : Row) → IsTrue (row_fits columns row)
    → FitsTypes (types_of columns) row
row_of_columns [] [] h = tt
row_of_columns [] (v ∷ vs) h = absurd cc
row_of_columns (c ∷ cs) [] h = absurd cc
row_of_columns (c ∷ cs) (v ∷ vs) h =
    let both = both_true (fits c.column_type v) (row_fits cs vs) h in
    (both.0, row_of_columns cs vs both.1)

pub fits_row : (columns : List table.Column) (row : Row) → FitsTypes (types_of columns) row
    → IsTrue (row_fits columns row)
fits_row [] [] h = refl
fits_row [] (v ∷ vs) h = absurd h
fits_row (c ∷ cs) [] h = absurd h
fits_row (c ∷ cs) (v ∷ vs) h = together (fits c.column_type v) (row_fits cs vs) h.0 (fits_row cs vs h.1)
  where
    together : (a b : Bool) → a ≡ true → b ≡ true → (a && b) ≡ true
    together true b is both = both
    together false b is both = absurd cc
