-- What names stand for.
--     ObjectKind, Named    the objects that a statement may name
--     Entry                a FROM entry: its name and its columns
--     column_at            the place of the one column of a name among all entries, and its type
--     columns_of_entry     the columns of the one entry of a name, with the place of the first
use Rattle.std.specs.Prelude.{ℕ, suc, ◌+◌, Bool, true, false, if◌then◌else◌, List, [], ◌∷◌, ◌++◌, length, Option, Some}
use Rattle.std.specs.Prelude.{None, bytes_eq}
use Rattle.wh_value.specs.Column.{ColumnType, Column}
use Rattle.wh_naming.specs.Findings.{Name}

pub data ObjectKind : Type 0 where
  TableObject : ObjectKind
  StreamObject : ObjectKind
  TaskObject : ObjectKind
  DynamicTableObject : ObjectKind

pub record Named : Type 0 where
  pub name : Name
  pub id : ℕ
  pub kind : ObjectKind
  pub columns : List Column

abbrev pub is_source : ObjectKind → Bool
is_source TableObject = true
is_source StreamObject = true
is_source TaskObject = false
is_source DynamicTableObject = true

abbrev pub named : List Named → Name → Option Named
named [] name = None
named (object ∷ objects) name = if bytes_eq object.name name then Some object else named objects name

pub record Entry : Type 0 where
  pub name : Name
  pub columns : List Column

abbrev pub width : List Entry → ℕ
width [] = 0
width (e ∷ es) = length e.columns + width es

-- a place among the columns of all entries, from 0
pub record Place : Type 0 where
  pub place : ℕ
  pub column_type : ColumnType

-- the columns of that name, the first of which has that place
abbrev pub places_among : Name → ℕ → List Column → List Place
places_among name from [] = []
places_among name from (c ∷ cs) =
    (if bytes_eq c.name name then record { place = from; column_type = c.column_type } ∷ [] else [])
    ++ places_among name (suc from) cs

-- whether a column that is written with that entry's name, or without one, may be the entry's
abbrev pub may_be_of : Option Name → Entry → Bool
may_be_of None e = true
may_be_of (Some name) e = bytes_eq e.name name

abbrev pub places_of : Option Name → Name → ℕ → List Entry → List Place
places_of entry name from [] = []
places_of entry name from (e ∷ es) = (if may_be_of entry e then places_among name from e.columns else [])
    ++ places_of entry name (from + length e.columns) es

abbrev pub only : {A : Type 0} → List A → Option A
only [] = None
only (x ∷ []) = Some x
only (x ∷ y ∷ xs) = None

-- none where no column has the name, or several have it
unfoldable pub column_at : Option Name → Name → List Entry → Option Place
column_at entry name entries = only (places_of entry name 0 entries)

-- columns with the place of the first
pub record Span : Type 0 where
  pub from : ℕ
  pub columns : List Column

abbrev pub spans_of : Name → ℕ → List Entry → List Span
spans_of name from [] = []
spans_of name from (e ∷ es) = (if bytes_eq e.name name then record { from = from; columns = e.columns } ∷ [] else [])
    ++ spans_of name (from + length e.columns) es

unfoldable pub columns_of_entry : Name → List Entry → Option Span
columns_of_entry name entries = only (spans_of name 0 entries)
