-- What is known of a partition without its rows.
--     width_of, IsEven        how many values the first row has, and that each has as many
--     column                  the values at a place, from the first row on
--     stands_before           whether a value stands before another in the value order, or in its reverse
--     IsLeast, IsGreatest     one of some values, such that none is less, or none greater, in the value order
--     IsMetaOf                what is said of a partition is so
use Rattle.std.specs.Prelude.{◌≡◌, ℕ, ◌<◌, Bool, true, false, List, [], ◌∷◌, map, length, slice_index_or}
use Rattle.std.specs.List.{All, Contains}
use Rattle.std.specs.Ordering.{is_lt}
use Rattle.wh_value.specs.Value.{Value, Null, Row, value_cmp}
use Rattle.wh_value.specs.View.{value_of}
use Rattle.wh_frame.specs.Partition.{Partition, first_number, last_number}
use Rattle.wh_part.specs.declared.meta.Bounds.{Bounds}
use Rattle.wh_part.specs.declared.meta.PartMeta.{PartMeta}

abbrev pub width_of : List (ℕ × Row) → ℕ
width_of [] = 0
width_of (e ∷ es) = length e.1

abbrev pub IsEven : List (ℕ × Row) → Type 0
IsEven rows = All (λ e. length e.1 ≡ width_of rows) rows

abbrev pub column : ℕ → List (ℕ × Row) → List Value
column place rows = map (λ e. slice_index_or e.1 place Null) rows

abbrev pub stands_before : Bool → Value → Value → Bool
stands_before false x y = is_lt (value_cmp x y)
stands_before true x y = is_lt (value_cmp y x)

pub record IsLeast (value : Value) (values : List Value) : Type 0 where
  pub held : Contains values value
  pub none_less : All (λ other. is_lt (value_cmp other value) ≡ false) values

pub record IsGreatest (value : Value) (values : List Value) : Type 0 where
  pub held : Contains values value
  pub none_greater : All (λ other. is_lt (value_cmp value other) ≡ false) values

pub record IsBoundsOf (bounds : Bounds) (values : List Value) : Type 0 where
  pub least : IsLeast (value_of bounds.least) values
  pub greatest : IsGreatest (value_of bounds.greatest) values

pub record IsMetaOf (meta : PartMeta) (p : Partition) : Type 0 where
  pub number : meta.id.number ≡ p.number
  pub rows : meta.rows ≡ length p.rows
  pub first : meta.first ≡ first_number p.rows
  pub last : meta.last ≡ last_number p.rows
  pub width : length meta.columns.items ≡ width_of p.rows
  pub columns : (place : ℕ) (d : Bounds)
      → place < width_of p.rows
      → IsBoundsOf (slice_index_or meta.columns.items place d) (column place p.rows)
