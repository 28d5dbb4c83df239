-- Events and their replies, worked out by hand: a wrong rule doesn't check.
--     insertion, asked, table_t     trees and events that the other pages take too
--     literal_typed                 what a literal stands for
use Rattle.std.proofs.Common.{◌≡◌, ap, ℕ, List, [], ◌∷◌, Option, Some, None, Bool, true, false, pos, refl}
use Rattle.std.specs.Prelude.{codes}
use Rattle.std.specs.Fmt.{digits}
use Rattle.std.specs.FinMap.{empty}
use Rattle.wh_value.specs.Value.{Number, Null}
use Rattle.wh_value.specs.declared.value.Value.TheVariants as v
use Rattle.wh_value.specs.declared.column.ColumnType as types_of
use Rattle.wh_value.specs.declared.column.ColumnType.TheVariants as types
use Rattle.wh_value.specs.declared.column.Column as columns
use Rattle.wh_value.specs.declared.value.Value as values_of
use Rattle.wh_value.specs.declared.limit.Limit.TheVariants as limits
use Rattle.wh_ast.specs.declared.expr.Expr.{Expr, roll-Expr, fold-roll-Expr}
use Rattle.wh_ast.specs.declared.expr.Expr.TheOpen.{Expr-F}
use Rattle.wh_ast.specs.declared.dml.Dml.{Dml}
use Rattle.wh_ast.specs.declared.dml.Dml.TheVariants as dml
use Rattle.wh_ast.specs.declared.dml.Rows.TheVariants as rows
use Rattle.wh_ast.specs.declared.statement.Statement as tree
use Rattle.wh_ast.specs.declared.statement.Statement.TheVariants as st
use Rattle.wh_grammar.specs.Spelled.{TooLong, Unreadable, Asked}
use Rattle.wh_meaning.specs.Scalar.{val}
use Rattle.wh_meaning.specs.Query.{values_on}
use Rattle.wh_naming.specs.Findings.{first_failing}
use Rattle.wh_naming.specs.Typing as typing
use Rattle.wh_naming.specs.Typing.{Context, Reading, typed}
use Rattle.wh_naming.specs.Changes.{bound_change}
use Rattle.wh_effect.specs.Effect.{effect}
use Rattle.wh_reply.specs.Reply.{Refused, NoSuchSession, TypeMismatch, OverLimit, Changed, Inserted, Begun, print}
use Rattle.wh_state.specs.State.{first_state}
use Rattle.wh_state.specs.Edits.{edits_from, later_edits, partitions_made}
use Rattle.wh_state.specs.Act.{EditsRows, edited_table}
use Rattle.wh_machine.specs.Tables.{table_refusal, retention_of, create_table, drop_table}
use Rattle.wh_machine.specs.Names.{names_in}
use Rattle.wh_ddl_naming.specs.Tables.{bound_table, taken_column}
use Rattle.wh_ddl_naming.specs.Statements as ddl
use Rattle.wh_machine.specs.Streams.{drop_stream}
use Rattle.wh_state.proofs.KnownMaps.{map_steps}
use Rattle.wh_machine.specs.Transaction as transactions
use Rattle.wh_machine.specs.Transaction.{seen, staged, past_limit}
use Rattle.wh_machine.specs.Sessions.{no_sessions}
use Rattle.wh_machine.specs.Outcome.{Machine, Outcome, Refuses, Does, opened}
use Rattle.wh_machine.specs.Reading.{reading_refusal}
use Rattle.wh_machine.specs.Statements.{begin, changes_rows, carried_out}
use Rattle.wh_machine.specs.Consuming.{change_in}
use Rattle.wh_machine.specs.Definitions.{defines}
use Rattle.wh_machine.specs.Step.{Event, Command, Tick, step, commanded, text}
use Rattle.wh_graph.specs.Action.{action}
use Rattle.wh_moment.specs.Moment.{due_table}
use Rattle.wh_machine.specs.Ticks.{ticked}

abbrev pub first : Machine
first = opened first_state

-- ---- statements as trees

abbrev column : List ℕ → types_of.ColumnType → columns.Column
column name type = record { name = name; column_type = type }

abbrev creation : Bool → List ℕ → List columns.Column → Option ℕ → tree.Statement
creation replace name columns retention =
    st.CreateTable (record { replace = replace; name = name; columns = columns; retention = retention })

abbrev pub insertion_into : List ℕ → List (List Expr) → Dml
insertion_into table found = dml.Insert table None (rows.Values found)

abbrev pub insertion : List ℕ → List (List Expr) → tree.Statement
insertion table found = st.Dml (insertion_into table found)

abbrev pub number : ℕ → Expr
number n = roll-Expr (Expr-F.Const (v.Number (pos n)))

abbrev pub asked : tree.Statement → Event
asked s = Command 0 1 (Asked s)

-- CREATE TABLE T(K NUMBER), also OR REPLACE
abbrev pub table_t : tree.Statement
table_t = creation false (codes "T") (column (codes "K") types.Number ∷ []) None

abbrev pub replacing_t : tree.Statement
replacing_t = creation true (codes "T") (column (codes "K") types.Number ∷ []) None

abbrev pub drop_t : tree.Statement
drop_t = st.DropTable (codes "T")

-- one day where none is written
retentions : (retention_of (bound_table (names_in []) (record {
  replace = false;
  name = codes "T";
  columns = [];
  retention = None;
})).value ≡ 1)
    × (retention_of (bound_table (names_in []) (record {
      replace = true;
      name = codes "T";
      columns = [];
      retention = Some 7;
    })).value ≡ 7)
retentions = (refl, refl)

-- what a literal stands for, wherever it stands
pub literal_typed : (c : values_of.Value) (context : Context) (calls : ℕ)
    → typed (roll-Expr (Expr-F.Const c)) context calls ≡ typing.step (Expr-F.Const c) context calls
literal_typed c context calls =
    ap (λ (r : Reading). r context calls) (fold-roll-Expr Reading typing.step (Expr-F.Const c))

-- the first name that comes again, and one that is kept for streams
taken : (taken_column (codes "A" ∷ codes "B" ∷ codes "B" ∷ codes "A" ∷ []) ≡ Some (codes "A"))
    × (taken_column (codes "K" ∷ codes "METADATA$A" ∷ codes "K" ∷ []) ≡ Some (codes "K"))
    × (taken_column (codes "A" ∷ codes "METADATA$A" ∷ []) ≡ Some (codes "METADATA$A"))
    × (taken_column (codes "metadata$k" ∷ codes "K" ∷ []) ≡ None)
taken = (refl, refl, refl, refl)

-- ---- events and their replies

-- a refused script
refused : text first (asked table_t ∷ asked table_t
    ∷ asked (insertion (codes "T") ((number 1 ∷ number 2 ∷ []) ∷ [])) ∷ [])
    ≡ codes "CREATED TABLE T\nE7 NameTaken T\nE9 TypeMismatch\n"
unfolding step commanded ddl.bound first_failing carried_out defines create_table drop_table table_refusal changes_rows
    transactions.acts_of past_limit staged later_edits seen reading_refusal bound_change typing.step print digits
refused = simp (literal_typed, map_steps)

unknown : text first (asked (insertion (codes "U") ((number 1 ∷ []) ∷ [])) ∷ asked (st.DropTable (codes "U"))
    ∷ asked (st.DropStream (codes "S")) ∷ Command 0 65 Unreadable ∷ Command 0 65 TooLong ∷ Tick 5 ∷ [])
    ≡ codes "E6 UnknownName U\nE6 UnknownName U\nE6 UnknownName S\nE1 SyntaxError\nE13 Limit STATEMENT 65536\nIDLE\n"
unfolding step commanded ddl.bound first_failing carried_out defines create_table drop_table drop_stream table_refusal
    changes_rows transactions.acts_of past_limit staged later_edits seen reading_refusal bound_change typing.step print
    digits ticked action due_table
unknown = refl

-- a dropped name is unknown, and free for a new table
dropped : text first (asked table_t ∷ asked drop_t ∷ asked (insertion (codes "T") ((number 1 ∷ []) ∷ [])) ∷ asked drop_t
    ∷ asked table_t ∷ [])
    ≡ codes "CREATED TABLE T\nDROPPED TABLE T\nE6 UnknownName T\nE6 UnknownName T\nCREATED TABLE T\n"
unfolding step commanded ddl.bound first_failing carried_out defines create_table drop_table table_refusal changes_rows
    transactions.acts_of past_limit staged later_edits seen reading_refusal bound_change typing.step print digits
dropped = refl

-- OR REPLACE takes the place of a table, or of none
replaced : text first (asked table_t ∷ asked replacing_t ∷ asked drop_t ∷ asked replacing_t ∷ [])
    ≡ codes "CREATED TABLE T\nCREATED TABLE T\nDROPPED TABLE T\nCREATED TABLE T\n"
unfolding step commanded ddl.bound first_failing carried_out defines create_table drop_table table_refusal print digits
replaced = refl

-- rows of values
inserted : text first (asked table_t ∷ asked (insertion (codes "T") ((number 1 ∷ []) ∷ (number 7 ∷ []) ∷ [])) ∷ [])
    ≡ codes "CREATED TABLE T\nINSERTED 2\n"
unfolding step commanded ddl.bound first_failing carried_out defines create_table drop_table table_refusal changes_rows
    transactions.acts_of past_limit staged later_edits seen reading_refusal bound_change typing.step effect values_on
    val edited_table partitions_made edits_from print digits
inserted = simp (literal_typed, map_steps)

-- nothing goes where the condition holds on no row
none_go : text first
    (asked table_t ∷ asked (st.Dml (dml.Delete (codes "T") None)) ∷ asked (st.Dml (dml.Update (codes "T") [] None))
    ∷ asked (st.Dml (dml.Delete (codes "T") (Some (number 1)))) ∷ asked (st.Dml (dml.Delete (codes "U") None)) ∷ [])
    ≡ codes "CREATED TABLE T\nDELETED 0\nUPDATED 0\nE9 TypeMismatch\nE6 UnknownName U\n"
unfolding step commanded ddl.bound first_failing carried_out defines create_table drop_table table_refusal changes_rows
    transactions.acts_of past_limit staged later_edits seen reading_refusal bound_change typing.step effect values_on
    val edited_table partitions_made edits_from print digits
none_go = simp (literal_typed, map_steps)

-- a session that there isn't is tested behind the grammar
session : ((step first (Command 0 65 (Asked st.Begin))).1 ≡ Refused (NoSuchSession 65))
    × ((step first (Command 0 0 (Asked st.Begin))).1 ≡ Refused (NoSuchSession 0))
    × ((step first (Command 0 64 (Asked st.Begin))).1 ≡ Begun 1)
unfolding step commanded ddl.bound carried_out begin
session = (refl, refl, refl)

-- a stamp of 62 bits or more is refused before all else, and doesn't pass; the one before passes
last_stamp : (step first (Command 4611686018427387904 65 TooLong) ≡ (first, Refused (OverLimit limits.Stamp)))
    × ((step first (Tick 4611686018427387903)).0.state.last ≡ 4611686018427387903)
    × (text first (Tick 4611686018427387904 ∷ []) ≡ codes "E13 Limit STAMP 4611686018427387904\n")
unfolding step commanded print digits ticked action due_table
last_stamp = (refl, refl, refl)

-- a stamp is the reading, or the one behind the last
stamps : ((step first (Tick 0)).0.state.last ≡ 1) × ((step (step first (Tick 7)).0 (Tick 5)).0.state.last ≡ 8)
    × ((step first (Tick 9)).0.state.committed ≡ 0)
unfolding step ticked action due_table
stamps = (refl, refl, refl)

-- T with one column of numbers, as it is created
abbrev created : Machine
created = (step first (asked table_t)).0

abbrev insertion_of : List (List Expr) → Dml
insertion_of found = dml.Insert (codes "T") None (rows.Values found)

abbrev null : Expr
null = roll-Expr (Expr-F.Const v.Null)

abbrev text_one : Expr
text_one = roll-Expr (Expr-F.Const (v.Text (codes "1")))

abbrev changed : Dml → Outcome
changed statement = changes_rows created 1 (change_in created statement)

-- it takes one value for each column, of its type or NULL
rows_fit : (changed (insertion_of ((null ∷ []) ∷ (number 1 ∷ []) ∷ []))
    ≡ Does (Changed (Inserted 2)) no_sessions (Some (EditsRows 1 (record {
      rows = empty;
      added = (Null ∷ []) ∷ (Number (pos 1) ∷ []) ∷ [];
    }) ∷ [])))
    × (changed (insertion_of ((null ∷ null ∷ []) ∷ [])) ≡ Refuses TypeMismatch)
    × (changed (insertion_of ([] ∷ [])) ≡ Refuses TypeMismatch)
    × (changed (insertion_of ((null ∷ []) ∷ (text_one ∷ []) ∷ [])) ≡ Refuses TypeMismatch)
unfolding step commanded ddl.bound first_failing carried_out defines create_table table_refusal changes_rows
    transactions.acts_of past_limit staged later_edits seen reading_refusal bound_change typing.step effect values_on
    val partitions_made edits_from
rows_fit = (simp (literal_typed, map_steps), simp (literal_typed, map_steps), refl, simp (literal_typed, map_steps))
