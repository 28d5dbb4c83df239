-- The order of tests, worked out by hand: of two that fail, the first is answered.
use Rattle.std.proofs.Common.{◌≡◌, ℕ, zero, suc, ◌+◌, List, [], ◌∷◌, map, Option, Some, None, option_map, Bool, true}
use Rattle.std.proofs.Common.{false, pos, replicate, refl}
use Rattle.std.specs.Prelude.{codes}
use Rattle.std.specs.Fmt.{digits}
use Rattle.std.specs.FinMap.{empty, insert}
use Rattle.wh_value.specs.Value.{Number, Text, Null, Row}
use Rattle.wh_value.specs.declared.limit.Limit.TheVariants as limits
use Rattle.wh_meaning.specs.Scalar.{Const}
use Rattle.wh_meaning.specs.Query.{Scan}
use Rattle.wh_naming.specs.Findings.{nothing_found, mistyped_if, first_failing}
use Rattle.wh_naming.specs.Changes.{InsertRows, Update, Delete, Merge}
use Rattle.wh_effect.specs.Effect as effects
use Rattle.wh_effect.specs.Effect.{Effect}
use Rattle.wh_reply.specs.Reply.{Refusal, NameTaken, TypeMismatch, OverLimit, NumberOutOfRange, AmbiguousMerge}
use Rattle.wh_reply.specs.Reply.{Changed, Inserted, Updated, Deleted, Merged, refusal_text}
use Rattle.wh_value.specs.View.{column_of}
use Rattle.wh_value.specs.declared.column.Column as columns
use Rattle.wh_value.specs.declared.column.ColumnType.TheVariants as types
use Rattle.wh_ddl_naming.specs.Meant as ddl_naming
use Rattle.wh_ddl_naming.specs.Meant.{Meant}
use Rattle.wh_ddl_naming.specs.Tables.{NewTable, bound_table}
use Rattle.wh_state.specs.State.{State, TableKind, Object, first_state, nothing_held, new_table, new_object, id_of}
use Rattle.wh_state.specs.Edits.{edits_from, later_edits, partitions_made}
use Rattle.wh_state.specs.Act.{EditsRows}
use Rattle.wh_state.proofs.KnownMaps.{map_steps}
use Rattle.wh_machine.specs.Names.{names_in, refusal_of, naming_refusal}
use Rattle.wh_machine.specs.Tables.{table_refusal}
use Rattle.wh_machine.specs.Changes.{edits_of, Fails, Gives, given, reply_to}
use Rattle.wh_machine.specs.Transaction.{staged, acts_of, past_limit}
use Rattle.wh_machine.specs.Sessions.{no_sessions}
use Rattle.wh_machine.specs.Outcome.{Outcome, Refuses, Does, opened}
use Rattle.wh_machine.specs.Statements.{changes_in}

-- ---- CREATE TABLE

-- so many columns, each with another byte as its name
abbrev columns_from : ℕ → ℕ → List columns.Column
columns_from byte zero = []
columns_from byte (suc count) = record { name = byte ∷ []; column_type = types.Number } ∷ columns_from (byte + 1) count

-- of one name
abbrev twice : List columns.Column
twice = record { name = codes "A"; column_type = types.Number }
    ∷ record { name = codes "A"; column_type = types.Number } ∷ []

abbrev named_x : Bool → Object
named_x live = record {
  name = codes "X";
  is_live = live;
  kind = TableKind (new_table nothing_held (map column_of (columns_from 65 1)) 1 1);
}

abbrev with_objects : List Object → State
with_objects objects = record { last = 1; committed = 1; objects = objects }

-- as many live objects as there may be
abbrev full : State
full = with_objects (replicate 1000 (named_x true))

-- the first test that a new table fails, those of names among them
abbrev tested : State → Meant NewTable → Option Refusal
tested s n = table_refusal s (option_map refusal_of (ddl_naming.first_failing n)) n.value

abbrev refused : State → Bool → List ℕ → List columns.Column → ℕ → Option Refusal
refused s replace name columns retention = tested s (bound_table (names_in s.objects)
    (record { replace = replace; name = name; columns = columns; retention = Some retention }))

-- a name that is taken, before the columns' names, before the count of objects
names_first : (refused full false (codes "X") twice 91 ≡ Some (NameTaken (codes "X")))
    × (refused full false (codes "Y") twice 91 ≡ Some (NameTaken (codes "A")))
unfolding table_refusal first_failing
names_first = (refl, refl)

-- before the length of a name
objects_next : (refused full false (replicate 256 65) (columns_from 65 65) 91 ≡ Some (OverLimit limits.Objects))
unfolding table_refusal first_failing
objects_next = refl

-- before the count of columns, before the retention
counts_last : (refused first_state false (replicate 256 65) (columns_from 65 65) 91 ≡ Some (OverLimit limits.Name))
    × (refused first_state false (codes "X") (columns_from 65 65) 91 ≡ Some (OverLimit limits.Columns))
    × (refused first_state false (codes "X") (columns_from 65 64) 91 ≡ Some (OverLimit limits.Retention))
unfolding table_refusal first_failing
counts_last = (refl, refl, refl)

-- what is at its limits is taken
at_limits : refused (with_objects (replicate 999 (named_x true))) false (replicate 255 65) (columns_from 65 64) 90
    ≡ None
unfolding table_refusal first_failing
at_limits = refl

-- a column's name is as short as a table's
long_column : refused first_state false (codes "X")
    (record { name = replicate 256 65; column_type = types.Number } ∷ []) 1 ≡ Some (OverLimit limits.Name)
unfolding table_refusal first_failing
long_column = refl

-- a dropped object leaves its name free, keeps its id, and isn't counted
dropped : (id_of (codes "X") (named_x false ∷ []) ≡ None)
    × (id_of (codes "X") (named_x false ∷ named_x true ∷ []) ≡ Some 2)
    × (refused (with_objects (named_x false ∷ replicate 999 (named_x false))) false (codes "X") (columns_from 65 1) 1
    ≡ None)
unfolding table_refusal first_failing
dropped = (refl, refl, refl)

-- ---- OR REPLACE

-- a name that is there is taken over, before the columns' names; the object that goes isn't
-- counted, nor another one spared
replaced : (refused full true (codes "X") twice 91 ≡ Some (NameTaken (codes "A")))
    × (refused full true (codes "X") (columns_from 65 1) 1 ≡ None)
    × (refused full true (codes "Y") (columns_from 65 1) 1 ≡ Some (OverLimit limits.Objects))
unfolding table_refusal first_failing
replaced = (refl, refl, refl)

-- ---- changes of rows

-- what is found wrong with names and types, before the columns of queries
wide_last : (naming_refusal nothing_found false ≡ None)
    × (naming_refusal nothing_found true ≡ Some (OverLimit limits.Output))
    × (naming_refusal (mistyped_if true) true ≡ Some TypeMismatch)
unfolding first_failing
wide_last = (refl, refl, refl)

-- a table of one column of numbers, by its next row and partition
abbrev next_at : ℕ → ℕ → Object
next_at row partition = new_object (codes "T") (TableKind (record {
  created = 1;
  columns = map column_of (columns_from 65 1);
  retention = 1;
  next_row = row;
  next_partition = partition;
  versions = [];
}))

abbrev adding : List Row → Effect
adding rows = record { removed = []; changed = []; added = rows }

abbrev one : List Row
one = (Number (pos 1) ∷ []) ∷ []

-- what an INSERT by itself comes to
abbrev does_alone : Object → List Row → Outcome
does_alone table rows =
    changes_in (opened (with_objects (table ∷ []))) 1 None (Gives 1 [] (InsertRows []) (adding rows))

-- row numbers, before partition numbers; no row needs a number where none is added
numbers_tested : (does_alone (next_at 4611686018427387904 4611686018427387904) one
    ≡ Refuses (OverLimit limits.RowNumber))
    × (does_alone (next_at 1 4611686018427387904) one ≡ Refuses (OverLimit limits.PartitionNumber))
    × (does_alone (next_at 4611686018427387904 4611686018427387904) [] ≡ Does (Changed (Inserted 0)) no_sessions None)
    × (does_alone (next_at 4611686018427387903 4611686018427387903) one ≡ Does (Changed (Inserted 1)) no_sessions
    (Some (EditsRows 1 (record { rows = empty; added = one }) ∷ [])))
unfolding acts_of past_limit staged later_edits partitions_made edits_from
numbers_tested = (simp map_steps, simp map_steps, simp map_steps, simp map_steps)

-- undefined and ambiguous changes, and one that does something
given_as : (given 1 [] (InsertRows []) effects.Undefined ≡ Fails NumberOutOfRange)
    × (given 1 [] (InsertRows []) (effects.Ambiguous (Null ∷ [])) ≡ Fails (AmbiguousMerge (Null ∷ [])))
    × (given 1 (2 ∷ []) (InsertRows []) (effects.Does (adding [])) ≡ Gives 1 (2 ∷ []) (InsertRows []) (adding []))
given_as = (refl, refl, refl)

-- two rows go, one is changed and one comes
abbrev of_all : Effect
of_all = record { removed = 4 ∷ 5 ∷ []; changed = (6, Null ∷ []) ∷ []; added = one }

counts_told : (reply_to (InsertRows []) of_all ≡ Changed (Inserted 1))
    × (reply_to (Update (Const Null) []) of_all ≡ Changed (Updated 1))
    × (reply_to (Delete (Const Null)) of_all ≡ Changed (Deleted 2))
    × (reply_to (Merge (Scan 0) (Const Null) []) of_all ≡ Changed (Merged 1 1 2))
counts_told = (refl, refl, refl, refl)

edits_are : edits_of of_all
    ≡ record { rows = insert (insert (insert empty 4 None) 5 None) 6 (Some (Null ∷ [])); added = one }
unfolding edits_from
edits_are = refl

-- ---- limits as they are told

told : (refusal_text (OverLimit limits.RowNumber) ≡ codes "E13 Limit ROW_NUMBER 4611686018427387904")
    × (refusal_text (OverLimit limits.PartitionNumber) ≡ codes "E13 Limit PARTITION_NUMBER 4611686018427387904")
    × (refusal_text (OverLimit limits.ObjectIds) ≡ codes "E13 Limit OBJECT_IDS 4294967295")
    × (refusal_text (OverLimit limits.Objects) ≡ codes "E13 Limit OBJECTS 1000")
    × (refusal_text (OverLimit limits.Name) ≡ codes "E13 Limit NAME 255")
    × (refusal_text (OverLimit limits.Columns) ≡ codes "E13 Limit COLUMNS 64")
    × (refusal_text (OverLimit limits.Retention) ≡ codes "E13 Limit RETENTION 90")
    × (refusal_text (OverLimit limits.Output) ≡ codes "E13 Limit OUTPUT 256")
    × (refusal_text (OverLimit limits.LeastSchedule) ≡ codes "E13 Limit SCHEDULE 1")
    × (refusal_text (OverLimit limits.MostSchedule) ≡ codes "E13 Limit SCHEDULE 11520")
    × (refusal_text (OverLimit limits.LeastTargetLag) ≡ codes "E13 Limit TARGET_LAG 60")
    × (refusal_text (OverLimit limits.MostTargetLag) ≡ codes "E13 Limit TARGET_LAG 604800")
    × (refusal_text (AmbiguousMerge (Number (pos 1) ∷ Text (codes "a") ∷ [])) ≡ codes "E20 AmbiguousMerge 1 | 'a'")
unfolding digits
told = (refl, refl, refl, refl, refl, refl, refl, refl, refl, refl, refl, refl, refl)
