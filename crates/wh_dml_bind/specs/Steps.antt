-- Steps of a changing statement.
--     given                  what the column at a place is given, if it is
--     are_in_order           each given column stands at its own place, from a place on
--     fits_at                a value's type is that of the place at an index
--     first_of, second_of    the entries that a clause of MERGE sees
--     source_entry           the source of MERGE as an entry
--     merge_of               a MERGE of its parts
use Rattle.std.specs.Prelude.{ℕ, suc, Bool, true, false, ◌&&◌, if◌then◌else◌, List, [], ◌∷◌, slice_get}
use Rattle.std.specs.Prelude.{Option, Some, None}
use Rattle.wh_value.specs.Column.{ColumnType}
use Rattle.wh_meaning.specs.Scalar.{Scalar}
use Rattle.wh_naming.specs.Findings.{Name, Findings, followed}
use Rattle.wh_naming.specs.Scope.{Place, Entry}
use Rattle.wh_naming.specs.Select.{BoundSource}
use Rattle.wh_naming.specs.Typing.{alike}
use Rattle.wh_naming.specs.Changes.{Target, BoundChange, BoundClause, Merge, is_at, place_type}

abbrev pub given : ℕ → List (Option Place) → List Scalar → Option Scalar
given place [] scalars = None
given place (p ∷ ps) [] = None
given place (p ∷ ps) (s ∷ ss) = if is_at place p then Some s else given place ps ss

abbrev pub are_in_order : ℕ → List (Option Place) → Bool
are_in_order place [] = true
are_in_order place (p ∷ ps) = is_at place p && are_in_order (suc place) ps

abbrev fits : Option (Option Place) → Option ColumnType → Bool
fits None type_of = false
fits (Some p) type_of = alike (place_type p) type_of

abbrev pub fits_at : List (Option Place) → ℕ → Option ColumnType → Bool
fits_at places index type_of = fits (slice_get places index) type_of

abbrev no_entry : Entry
no_entry = record { name = []; columns = [] }

abbrev pub first_of : List Entry → Entry
first_of [] = no_entry
first_of (e ∷ es) = e

abbrev pub second_of : List Entry → Entry
second_of [] = no_entry
second_of (e ∷ es) = first_of es

abbrev pub source_entry : Name → BoundSource → Entry
source_entry name s = record { name = name; columns = s.columns }

abbrev pub merge_of : Target → BoundSource → Findings → Scalar → List BoundClause → Findings → BoundChange
merge_of t s taken on clauses found = record {
  target = t.id;
  change = Merge s.query on clauses;
  sources = s.sources;
  findings = followed t.findings (followed taken (followed s.findings found));
  is_wide = s.is_wide;
}
