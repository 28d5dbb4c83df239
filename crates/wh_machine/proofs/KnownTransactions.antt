-- Transactions worked out by hand, over a table whose next row number is 3.
--     first, second      the edits of a statement that adds two rows; and of one that changes row 1 and the second
--                        added row, deletes the first added row and adds another
--     of_two             a transaction that touched table 2 and holds table 5 untouched
use Rattle.std.proofs.Common.{◌≡◌, ℕ, true, false, List, [], ◌∷◌, Option, Some, None, pos, refl}
use Rattle.std.specs.FinMap.{empty, insert, entries}
use Rattle.wh_value.specs.Value.{Number, Row}
use Rattle.std.specs.Option.{option_map}
use Rattle.wh_value.specs.Limit.{bound}
use Rattle.wh_value.specs.declared.limit.Limit.TheVariants as limits
use Rattle.wh_reply.specs.Reply.{OverLimit}
use Rattle.wh_effect.specs.Effect.{Effect}
use Rattle.wh_state.specs.State.{Rows, Object, TableKind, new_object, version_at, last_rows}
use Rattle.wh_state.specs.Objects.{table_at}
use Rattle.wh_state.specs.Edits.{Edits, no_edits, edits_from, later_edits, rows_after}
use Rattle.wh_state.specs.Act.{EditsRows, edited_table}
use Rattle.wh_state.proofs.KnownMaps.{map_steps}
use Rattle.wh_machine.specs.Transaction.{Staged, Transaction, begun, seen, staged, acts_of, past_limit, commit_refusal}
use Rattle.wh_machine.specs.Sessions.{Sessions, no_sessions, number_in, holder, locked_by, with_begun, with_ended}
use Rattle.wh_machine.specs.Sessions.{with_transaction}

abbrev row : ℕ → Row
row k = Number (pos k) ∷ []

-- ---- edits on top of earlier ones

abbrev first : Edits
first = record { rows = empty; added = row 30 ∷ row 40 ∷ [] }

-- the added rows are seen under the numbers 3 and 4
abbrev second : Edits
second =
    record { rows = insert (insert (insert empty 3 None) 4 (Some (row 41))) 1 (Some (row 11)); added = row 50 ∷ [] }

-- a row that was added and deleted takes no number
both : later_edits 3 first second ≡ record { rows = insert empty 1 (Some (row 11)); added = row 41 ∷ row 50 ∷ [] }
unfolding later_edits
both = simp map_steps

abbrev committed : Rows
committed = insert (insert empty 1 (row 10)) 2 (row 20)

seen_rows : entries (rows_after 3 (later_edits 3 first second) committed)
    ≡ (1, row 11) ∷ (2, row 20) ∷ (3, row 41) ∷ (4, row 50) ∷ []
unfolding rows_after later_edits
seen_rows = simp map_steps

-- ---- a statement in a transaction, and what it then sees

abbrev table_with : ℕ → Object
table_with next_row = new_object [] (TableKind (record {
  created = 5;
  columns = [];
  retention = 1;
  next_row = next_row;
  next_partition = 1;
  versions = version_at 5 (record { rows = committed; partitions = [] }) ∷ [];
}))

abbrev effect_of_one : Effect
effect_of_one = record { removed = []; changed = (1, row 11) ∷ []; added = row 30 ∷ [] }

abbrev after_one : Transaction
after_one = record {
  number = 7;
  tables = insert empty 1 (record {
    edits = record { rows = insert empty 1 (Some (row 11)); added = row 30 ∷ [] };
    is_touched = true;
  });
  streams = [];
}

a_statement_is_staged : staged (begun 7) 1 [] 3 effect_of_one ≡ after_one
unfolding staged later_edits edits_from
a_statement_is_staged = simp map_steps

-- a later statement that counts no row
a_touched_table_stays_touched :
    acts_of [] (staged after_one 1 [] 3 (record { removed = []; changed = []; added = [] })) ≡ acts_of [] after_one
unfolding staged later_edits edits_from acts_of
a_touched_table_stays_touched = simp map_steps refl

abbrev rows_at : List Object → ℕ → Option (List (ℕ × Row))
rows_at objects id = option_map (λ t. entries (last_rows t)) (table_at objects id)

its_rows_are_seen : rows_at
    (seen (record { last = 9; committed = 5; objects = table_with 3 ∷ [] }) (Some after_one)).objects 1
    ≡ Some ((1, row 11) ∷ (2, row 20) ∷ (3, row 30) ∷ [])
unfolding seen edited_table rows_after
its_rows_are_seen = simp map_steps

-- one row more than there are numbers
a_commit_past_the_last_row_number : commit_refusal (table_with (bound limits.RowNumber) ∷ []) after_one
    ≡ Some (OverLimit limits.RowNumber)
unfolding past_limit
a_commit_past_the_last_row_number = simp map_steps

-- ---- what a commit has

abbrev staged_as : Edits → Staged
staged_as e = record { edits = e; is_touched = true }

abbrev held_alone : Staged
held_alone = record { edits = no_edits; is_touched = false }

abbrev of_two : Transaction
of_two = record { number = 7; tables = insert (insert empty 5 held_alone) 2 (staged_as first); streams = [] }

a_table_that_is_held_alone_gets_no_version : acts_of [] of_two ≡ Some (EditsRows 2 first ∷ [])
unfolding acts_of
a_table_that_is_held_alone_gets_no_version = simp map_steps

holds_alone_make_no_commit : acts_of [] (record { number = 7; tables = insert empty 5 held_alone; streams = [] }) ≡ None
unfolding acts_of
holds_alone_make_no_commit = simp map_steps

-- ---- holds: session 1 has `of_two`, and session 3 a transaction that holds nothing

abbrev opened : Sessions
opened = with_begun (with_transaction no_sessions 1 of_two) 3 9

a_held_table_is_locked_for_others : locked_by opened 3 5 ≡ Some 7
a_held_table_is_locked_for_others = simp map_steps

and_not_for_its_own_session : locked_by opened 1 5 ≡ None
and_not_for_its_own_session = simp map_steps

a_table_that_nobody_holds : holder opened 4 ≡ None
a_table_that_nobody_holds = simp map_steps

an_ended_transaction_has_no_number : number_in (with_ended opened 1) 1 ≡ None
an_ended_transaction_has_no_number = refl

others_keep_theirs : number_in (with_ended opened 1) 3 ≡ Some 9
others_keep_theirs = refl
