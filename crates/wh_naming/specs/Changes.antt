-- What a changing statement stands for.
--     Modification         rows for INSERT, the new row for UPDATE, and so on, as scalars over the rows
--                    that they are computed from
--     BoundChange    a change with its target's id, its sources' ids in the order of the text, and what is found wrong
--     bound_change   of a statement as it is written
use Rattle.std.specs.Prelude.{ℕ, suc, Bool, true, false, not, if◌then◌else◌, List, [], ◌∷◌, map, Option, Some, None}
use Rattle.std.specs.Prelude.{unwrap_or, nat_eq, bytes_eq}
use Rattle.std.specs.List.{list_any}
use Rattle.wh_value.specs.Value.{Null, Truth}
use Rattle.wh_value.specs.Column as table
use Rattle.wh_value.specs.Column.{ColumnType}
use Rattle.wh_ast.specs.declared.expr.Expr.{Expr}
use Rattle.wh_ast.specs.declared.query.FromItem as written
use Rattle.wh_ast.specs.declared.dml.Dml.{Dml}
use Rattle.wh_ast.specs.declared.dml.Dml.TheVariants as dml
use Rattle.wh_ast.specs.declared.dml.Rows.{Rows}
use Rattle.wh_ast.specs.declared.dml.Rows.TheVariants as rows
use Rattle.wh_ast.specs.declared.dml.Assignment.{Assignment}
use Rattle.wh_ast.specs.declared.dml.MergeClause.{MergeClause}
use Rattle.wh_ast.specs.declared.dml.MergeClause.TheVariants as clauses
use Rattle.wh_meaning.specs.Scalar.{Scalar, Const, Column}
use Rattle.wh_meaning.specs.Query.{Query}
use Rattle.wh_naming.specs.Findings.{Name, Findings, nothing_found, followed, unknown_object, wrong_kind_if}
use Rattle.wh_naming.specs.Findings.{unknown_column, taken_if, mistyped_if}
use Rattle.wh_naming.specs.Scope.{Named, ObjectKind, TableObject, named, Entry, Place, column_at}
use Rattle.wh_naming.specs.Typing.{Typed, alike}
use Rattle.wh_naming.specs.Select.{Output, BoundQuery, BoundSource, SourcePart, QueryReading, JoinPart, source_step}
use Rattle.wh_naming.specs.Select.{core_step, join_step, query_step, bound_query, column_of, plain, condition_findings}
use Rattle.wh_naming.specs.Select.{filter_findings}

-- ---- the target

pub record Target : Type 0 where
  pub id : ℕ
  pub columns : List table.Column
  pub findings : Findings

abbrev pub is_table : ObjectKind → Bool
is_table TableObject = true
is_table _ = false

abbrev pub target_of : Name → Option Named → Target
target_of name None = record { id = 0; columns = []; findings = unknown_object name }
target_of name (Some object) =
    record { id = object.id; columns = object.columns; findings = wrong_kind_if (not (is_table object.kind)) name }

abbrev pub target_at : List Named → Name → Target
target_at names name = target_of name (named names name)

abbrev pub target_entry : Name → Target → Entry
target_entry name t = record { name = name; columns = t.columns }

-- ---- columns that are given values, each at its place; None has no meaning

abbrev pub places_from : ℕ → List table.Column → List (Option Place)
places_from place [] = []
places_from place (c ∷ cs) = Some (record { place = place; column_type = c.column_type }) ∷ places_from (suc place) cs

abbrev pub place_in : List table.Column → Name → Option Place
place_in columns name = column_at None name ((record { name = []; columns = columns }) ∷ [])

-- without a list all columns in their order
abbrev pub given_places : List table.Column → Option (List Name) → List (Option Place)
given_places columns None = places_from 0 columns
given_places columns (Some names) = map (place_in columns) names

abbrev pub place_findings : Name → Option Place → Findings
place_findings name None = unknown_column name
place_findings name (Some p) = nothing_found

abbrev pub names_again : Name → List Name → Bool
names_again name names = list_any (λ other. bytes_eq other name) names

-- a list of columns: each has a meaning, and none comes twice
abbrev pub list_findings : List table.Column → List Name → Findings
list_findings columns [] = nothing_found
list_findings columns (name ∷ names) =
    followed (followed (place_findings name (place_in columns name)) (taken_if (names_again name names) name))
    (list_findings columns names)

abbrev pub given_findings : List table.Column → Option (List Name) → Findings
given_findings columns None = nothing_found
given_findings columns (Some names) = list_findings columns names

abbrev pub place_type : Option Place → Option ColumnType
place_type None = None
place_type (Some p) = Some p.column_type

-- as many values as columns, each of its column's type
abbrev pub fit_places : List (Option Place) → List (Option ColumnType) → Bool
fit_places [] [] = true
fit_places [] (t ∷ ts) = false
fit_places (p ∷ ps) [] = false
fit_places (p ∷ ps) (t ∷ ts) = if alike (place_type p) t then fit_places ps ts else false

abbrev pub is_at : ℕ → Option Place → Bool
is_at place None = false
is_at place (Some p) = nat_eq p.place place

-- what the column at a place is given, or else what it has otherwise
abbrev pub given_at : ℕ → List (Option Place) → List Scalar → Scalar → Scalar
given_at place [] scalars otherwise = otherwise
given_at place (p ∷ ps) [] otherwise = otherwise
given_at place (p ∷ ps) (s ∷ ss) otherwise = if is_at place p then s else given_at place ps ss otherwise

-- a new row's columns, NULL where nothing is given
abbrev pub row_from : ℕ → List table.Column → List (Option Place) → List Scalar → List Scalar
row_from place [] places scalars = []
row_from place (c ∷ cs) places scalars =
    given_at place places scalars (Const Null) ∷ row_from (suc place) cs places scalars

-- a changed row's columns, as they were where nothing is given
abbrev pub changed_from : ℕ → List table.Column → List (Option Place) → List Scalar → List Scalar
changed_from place [] places scalars = []
changed_from place (c ∷ cs) places scalars =
    given_at place places scalars (Column place) ∷ changed_from (suc place) cs places scalars

-- ---- values, over the columns of entries

abbrev pub typed_all : List Entry → List Expr → List Typed
typed_all entries values = map (plain entries) values

abbrev pub all_findings : List Typed → Findings
all_findings [] = nothing_found
all_findings (x ∷ xs) = followed x.findings (all_findings xs)

-- a row of values, with a scalar for each column of the target
pub record NewRow : Type 0 where
  pub scalars : List Scalar
  pub findings : Findings

abbrev pub new_row : List table.Column → List (Option Place) → List Typed → NewRow
new_row columns places xs = record {
  scalars = row_from 0 columns places (map (λ x. x.scalar) xs);
  findings = followed (all_findings xs) (mistyped_if (not (fit_places places (map (λ x. x.type_of) xs))));
}

-- a missing condition is TRUE
abbrev pub condition_of : List Entry → Option Expr → Scalar
condition_of entries None = Const (Truth true)
condition_of entries (Some e) = (plain entries e).scalar

-- ---- SET: columns with their values

abbrev pub changed_row : List table.Column → List Entry → List Assignment → List Scalar
changed_row columns entries parts =
    changed_from 0 columns (map (λ part. place_in columns part.column) parts)
    (map (λ part. (plain entries part.value).scalar) parts)

abbrev pub is_set_again : Name → List Assignment → Bool
is_set_again name parts = list_any (λ part. bytes_eq part.column name) parts

abbrev pub value_findings : Option Place → Typed → Findings
value_findings place x = followed x.findings (mistyped_if (not (alike (place_type place) x.type_of)))

abbrev pub part_findings : List table.Column → List Entry → Assignment → List Assignment → Findings
part_findings columns entries part parts = placed (place_in columns part.column)
  where
    placed : Option Place → Findings
    placed place =
        followed (followed (place_findings part.column place) (taken_if (is_set_again part.column parts) part.column))
        (value_findings place (plain entries part.value))

abbrev pub set_findings : List table.Column → List Entry → List Assignment → Findings
set_findings columns entries [] = nothing_found
set_findings columns entries (part ∷ parts) =
    followed (part_findings columns entries part parts) (set_findings columns entries parts)

-- ---- the statements

-- after MATCHED over the pair of a target row and a source row, after NOT MATCHED over the source row
pub data BoundClause : Type 0 where
  UpdateMatched : (condition : Scalar) → (row : List Scalar) → BoundClause
  DeleteMatched : (condition : Scalar) → BoundClause
  InsertUnmatched : (condition : Scalar) → (row : List Scalar) → BoundClause

pub data Modification : Type 0 where
  InsertRows : (rows : List (List Scalar)) → Modification
  InsertQuery : (query : Query) → (row : List Scalar) → Modification
  Update : (condition : Scalar) → (row : List Scalar) → Modification
  Delete : (condition : Scalar) → Modification
  Merge : (source : Query) → (on : Scalar) → (clauses : List BoundClause) → Modification

pub record BoundChange : Type 0 where
  pub target : ℕ
  pub change : Modification
  pub sources : List ℕ
  pub findings : Findings
  pub is_wide : Bool

-- a change that reads its target alone
abbrev pub change_alone : Target → Modification → Findings → BoundChange
change_alone t change findings =
    record { target = t.id; change = change; sources = []; findings = followed t.findings findings; is_wide = false }

-- ---- INSERT

abbrev pub value_rows : List table.Column → List (Option Place) → List (List Expr) → List NewRow
value_rows columns places found = map (λ values. new_row columns places (typed_all [] values)) found

abbrev pub row_findings : List NewRow → Findings
row_findings [] = nothing_found
row_findings (row ∷ others) = followed row.findings (row_findings others)

abbrev pub insert_values : Target → Option (List Name) → List NewRow → BoundChange
insert_values t names found =
    change_alone t (InsertRows (map (λ row. row.scalars) found))
    (followed (given_findings t.columns names) (row_findings found))

-- the columns of a query's rows
abbrev pub outputs_from : ℕ → List Output → List Scalar
outputs_from place [] = []
outputs_from place (o ∷ os) = Column place ∷ outputs_from (suc place) os

-- a column that is NULL in every core is a VARCHAR here too
abbrev pub output_types : List Output → List (Option ColumnType)
output_types outputs = map (λ o. Some (column_of o).column_type) outputs

abbrev pub insert_query : Target → Option (List Name) → BoundQuery → BoundChange
insert_query t names q = record {
  target = t.id;
  change = InsertQuery q.query (row_from 0 t.columns (given_places t.columns names) (outputs_from 0 q.outputs));
  sources = q.sources;
  findings = followed t.findings (followed (given_findings t.columns names)
      (followed q.findings (mistyped_if (not (fit_places (given_places t.columns names) (output_types q.outputs))))));
  is_wide = q.is_wide;
}

abbrev pub bound_rows : List Named → Target → Option (List Name) → Rows → BoundChange
bound_rows names t listed (rows.Values found) =
    insert_values t listed (value_rows t.columns (given_places t.columns listed) found)
bound_rows names t listed (rows.Query q) = insert_query t listed (bound_query q names 0)

-- ---- UPDATE and DELETE

abbrev pub bound_update : Target → List Entry → List Assignment → Option Expr → BoundChange
bound_update t entries parts filter = change_alone t
    (Update (condition_of entries filter) (changed_row t.columns entries parts))
    (followed (set_findings t.columns entries parts) (filter_findings entries filter))

abbrev pub bound_delete : Target → List Entry → Option Expr → BoundChange
bound_delete t entries filter = change_alone t (Delete (condition_of entries filter)) (filter_findings entries filter)

-- ---- MERGE

abbrev pub source_part : written.FromItem → SourcePart
source_part s =
    written.fold-FromItem SourcePart QueryReading JoinPart QueryReading source_step core_step join_step query_step s

-- a clause sees both entries, after NOT MATCHED the source alone
abbrev pub bound_clause : List table.Column → Entry → Entry → MergeClause → BoundClause
bound_clause columns t s (clauses.Update condition parts) =
    UpdateMatched (condition_of (t ∷ s ∷ []) condition) (changed_row columns (t ∷ s ∷ []) parts)
bound_clause columns t s (clauses.Delete condition) = DeleteMatched (condition_of (t ∷ s ∷ []) condition)
bound_clause columns t s (clauses.Insert condition listed values) =
    InsertUnmatched (condition_of (s ∷ []) condition)
    (new_row columns (given_places columns listed) (typed_all (s ∷ []) values)).scalars

abbrev pub clause_findings : List table.Column → Entry → Entry → MergeClause → Findings
clause_findings columns t s (clauses.Update condition parts) =
    followed (filter_findings (t ∷ s ∷ []) condition) (set_findings columns (t ∷ s ∷ []) parts)
clause_findings columns t s (clauses.Delete condition) = filter_findings (t ∷ s ∷ []) condition
clause_findings columns t s (clauses.Insert condition listed values) =
    followed (filter_findings (s ∷ []) condition)
    (followed (given_findings columns listed)
    (new_row columns (given_places columns listed) (typed_all (s ∷ []) values)).findings)

abbrev pub all_clause_findings : List table.Column → Entry → Entry → List MergeClause → Findings
all_clause_findings columns t s [] = nothing_found
all_clause_findings columns t s (c ∷ cs) = followed (clause_findings columns t s c) (all_clause_findings columns t s cs)

abbrev pub merged_on : Target → Entry → Entry → BoundSource → Expr → List MergeClause → BoundChange
merged_on t target source s on written_clauses = with_on (plain (target ∷ source ∷ []) on)
  where
    with_on : Typed → BoundChange
    with_on condition = record {
      target = t.id;
      change = Merge s.query condition.scalar (map (bound_clause t.columns target source) written_clauses);
      sources = s.sources;
      findings = followed t.findings (followed (taken_if (bytes_eq target.name source.name) target.name)
          (followed s.findings
          (followed (condition_findings condition) (all_clause_findings t.columns target source written_clauses))));
      is_wide = s.is_wide;
    }

abbrev pub bound_merge : Target → Name → SourcePart → List Named → Expr → List MergeClause → BoundChange
bound_merge t name part names on written_clauses = from_source (part.reading names 0)
  where
    from_source : BoundSource → BoundChange
    from_source s =
        merged_on t (target_entry name t) (record { name = part.name; columns = s.columns }) s on written_clauses

-- ---- the whole statement

unfoldable pub bound_change : List Named → Dml → BoundChange
bound_change names (dml.Insert name listed found) = bound_rows names (target_at names name) listed found
bound_change names (dml.Update name parts filter) = updated (target_at names name)
  where
    updated : Target → BoundChange
    updated t = bound_update t (target_entry name t ∷ []) parts filter
bound_change names (dml.Delete name filter) = deleted (target_at names name)
  where
    deleted : Target → BoundChange
    deleted t = bound_delete t (target_entry name t ∷ []) filter
bound_change names (dml.Merge name alias source on written_clauses) =
    bound_merge (target_at names name) (unwrap_or alias name) (source_part source) names on written_clauses
