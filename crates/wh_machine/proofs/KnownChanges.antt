-- Changing statements over a table T of two rows, 5 with the number 1 and 7 with the number 2, worked out by hand.
--     deleted, updated, added      the edits and the reply of a statement
--     none_counts                  no commit where no row counts
use Rattle.std.proofs.Common.{◌≡◌, ℕ, List, [], ◌∷◌, Option, Some, None}
use Rattle.std.specs.Prelude.{codes}
use Rattle.std.specs.FinMap.{empty, insert}
use Rattle.wh_ast.specs.declared.expr.Expr.{Expr}
use Rattle.wh_ast.specs.declared.dml.Dml.{Dml}
use Rattle.wh_ast.specs.declared.dml.Dml.TheVariants as dml
use Rattle.wh_ast.specs.declared.dml.Rows.TheVariants as rows
use Rattle.wh_meaning.specs.Scalar.{val}
use Rattle.wh_meaning.specs.Query.{values_on}
use Rattle.wh_naming.specs.Findings.{first_failing}
use Rattle.wh_naming.specs.Scope.{column_at}
use Rattle.wh_naming.specs.Typing as typing
use Rattle.wh_naming.specs.Changes.{bound_change, condition_of}
use Rattle.wh_naming.proofs.Written.{layers, number, null, column, equal, plus}
use Rattle.wh_effect.specs.Effect.{effect}
use Rattle.wh_reply.specs.Reply.{Reply, NumberOutOfRange, Changed, Inserted, Updated, Deleted}
use Rattle.wh_state.specs.Edits.{edits_from, later_edits, partitions_made}
use Rattle.wh_state.specs.Act.{Act, EditsRows}
use Rattle.wh_state.proofs.KnownMaps.{map_steps}
use Rattle.wh_state.proofs.KnownChanges.{row, filled}
use Rattle.wh_machine.specs.Transaction.{seen, staged, acts_of, past_limit}
use Rattle.wh_machine.specs.Sessions.{no_sessions}
use Rattle.wh_machine.specs.Outcome.{Outcome, Refuses, Does, opened}
use Rattle.wh_machine.specs.Reading.{reading_refusal}
use Rattle.wh_machine.specs.Statements.{changes_rows}
use Rattle.wh_machine.specs.Consuming.{change_in}

-- in a session without a transaction
abbrev outcome : Dml → Outcome
outcome statement = changes_rows (opened filled) 1 (change_in (opened filled) statement)

abbrev answers : Reply → Outcome
answers reply = Does reply no_sessions None

abbrev commits : Reply → List Act → Outcome
commits reply acts = Does reply no_sessions (Some acts)

ruleset steps = (layers, condition_of, map_steps)

-- K = k
abbrev is_k : ℕ → Expr
is_k k = equal (column (codes "K")) (number k)

abbrev delete : Option Expr → Dml
delete filter = dml.Delete (codes "T") filter

-- SET K = an expression
abbrev update : Expr → Option Expr → Dml
update x filter = dml.Update (codes "T") ((record { column = codes "K"; value = x }) ∷ []) filter

-- the row of the condition goes; without one all go
deleted : (outcome (delete (Some (is_k 7)))
    ≡ commits (Changed (Deleted 1)) (EditsRows 1 (record { rows = insert empty 2 None; added = [] }) ∷ []))
    × (outcome (delete None)
    ≡ commits (Changed (Deleted 2))
    (EditsRows 1 (record { rows = insert (insert empty 1 None) 2 None; added = [] }) ∷ []))
unfolding changes_rows acts_of past_limit staged later_edits seen reading_refusal bound_change first_failing column_at
    typing.step effect values_on val partitions_made edits_from
deleted = (simp steps, simp steps)

-- also where the new row is an equal one
updated : (outcome (update (plus (column (codes "K")) (number 1)) (Some (is_k 7)))
    ≡ commits (Changed (Updated 1)) (EditsRows 1 (record { rows = insert empty 2 (Some (row 8)); added = [] }) ∷ []))
    × (outcome (update (number 5) None) ≡ commits (Changed (Updated 2))
    (EditsRows 1 (record { rows = insert (insert empty 1 (Some (row 5))) 2 (Some (row 5)); added = [] }) ∷ []))
unfolding changes_rows acts_of past_limit staged later_edits seen reading_refusal bound_change first_failing column_at
    typing.step effect values_on val partitions_made edits_from
updated = (simp steps, simp steps)

added : outcome (dml.Insert (codes "T") None (rows.Values ((number 5 ∷ []) ∷ [])))
    ≡ commits (Changed (Inserted 1)) (EditsRows 1 (record { rows = empty; added = row 5 ∷ [] }) ∷ [])
unfolding changes_rows acts_of past_limit staged later_edits seen reading_refusal bound_change first_failing column_at
    typing.step effect values_on val partitions_made edits_from
added = simp steps

none_counts : (outcome (delete (Some (is_k 6))) ≡ answers (Changed (Deleted 0)))
    × (outcome (update (number 9) (Some (is_k 6))) ≡ answers (Changed (Updated 0)))
unfolding changes_rows acts_of past_limit staged later_edits seen reading_refusal bound_change first_failing column_at
    typing.step effect values_on val partitions_made edits_from
none_counts = (simp steps, simp steps)

-- a condition that is NULL holds on no row; one that is undefined on a row leaves no outcome
no_value : (outcome (delete (Some (equal (column (codes "K")) null))) ≡ answers (Changed (Deleted 0)))
    × (outcome (delete (Some (equal (plus (column (codes "K")) (number 999999999999999994)) (number 0))))
    ≡ Refuses NumberOutOfRange)
unfolding changes_rows acts_of past_limit staged later_edits seen reading_refusal bound_change first_failing column_at
    typing.step effect values_on val partitions_made edits_from
no_value = (simp steps, simp steps)
