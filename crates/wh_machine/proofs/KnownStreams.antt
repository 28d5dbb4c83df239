-- Statements that read a stream, worked out by hand: T has the row 7 since stamp 4, S shows what T got behind
-- stamp 2, and C is empty.
use Rattle.std.proofs.Common.{◌≡◌, ap, ◌∙◌, ℕ, true, false, List, [], ◌∷◌, ◌++◌, Some, None, pos, refl}
use Rattle.std.specs.Prelude.{codes}
use Rattle.std.specs.Fmt.{digits}
use Rattle.std.specs.FinMap.{empty, insert}
use Rattle.wh_value.specs.Value.{Number, Row}
use Rattle.wh_value.specs.Column.{NumberType}
use Rattle.wh_ast.specs.declared.dml.Dml.{Dml}
use Rattle.wh_ast.specs.declared.dml.Dml.TheVariants as dml
use Rattle.wh_ast.specs.declared.dml.Rows.TheVariants as rows
use Rattle.wh_ast.specs.declared.statement.Statement.TheVariants as st
use Rattle.wh_meaning.specs.Bag.{fold_bag}
use Rattle.wh_meaning.specs.Scalar.{val}
use Rattle.wh_meaning.specs.Query.{values_on, eval}
use Rattle.wh_meaning.specs.Listing.{listed}
use Rattle.wh_naming.specs.Findings.{first_failing}
use Rattle.wh_naming.specs.Scope.{column_at}
use Rattle.wh_naming.specs.Typing as typing
use Rattle.wh_naming.specs.Select.{QueryReading, source_step, core_step, query_step, ordered, bound_select}
use Rattle.wh_naming.specs.Changes.{target_at, insert_query, bound_change}
use Rattle.wh_naming.proofs.Written.{WrittenQuery, layers, k, name_s, only, column, object, select}
use Rattle.wh_effect.specs.Effect.{effect}
use Rattle.wh_reply.specs.Reply.{SourceGone, StaleStream, Locked, HasData, Changed, Inserted, Committed, Listing}
use Rattle.wh_reply.specs.Reply.{print}
use Rattle.wh_state.specs.State.{Table, Stream, Object, TableKind, StreamKind, new_object, dropped, nothing_held}
use Rattle.wh_state.specs.State.{Version, version_at, new_stream}
use Rattle.wh_state.specs.Edits.{Edits, edits_from, later_edits, partitions_made}
use Rattle.wh_state.specs.Act.{EditsRows, MovesOffset}
use Rattle.wh_machine.specs.Tables.{table_refusal, create_table, drop_table}
use Rattle.wh_machine.specs.Streams.{stream_refusal, create_stream, drop_stream}
use Rattle.wh_machine.specs.Names.{names_from}
use Rattle.wh_state.proofs.KnownMaps.{map_steps}
use Rattle.wh_net.specs.Net.{net}
use Rattle.wh_net.specs.Stream.{shown}
use Rattle.wh_machine.specs.Transaction.{Transaction, begun, seen, staged, acts_of, past_limit}
use Rattle.wh_machine.specs.Sessions.{Sessions, no_sessions, with_transaction, transaction_in}
use Rattle.wh_machine.specs.Outcome.{Machine, Outcome, Refuses, Does}
use Rattle.wh_machine.specs.Reading.{reading_refusal, has_data}
use Rattle.wh_machine.specs.Statements.{commit, bound_changed, changes_in, changes_rows, selects, carried_out}
use Rattle.wh_machine.specs.Definitions.{defines}
use Rattle.wh_machine.specs.Consuming.{change_in}
use Rattle.wh_ddl_naming.specs.Statements as ddl
use Rattle.wh_machine.specs.Offsets.{with_streams, offset_move, acts_of_commit}
use Rattle.wh_machine.specs.Step.{step, commanded, text}
use Rattle.wh_machine.proofs.KnownEvents.{first, table_t as event_t, asked}

abbrev row : ℕ → Row
row n = Number (pos n) ∷ []

abbrev table_of : ℕ → ℕ → List Version → Table
table_of stamp next kept = record {
  created = stamp;
  columns = record { name = k; column_type = NumberType } ∷ [];
  retention = 1;
  next_row = next;
  next_partition = 1;
  versions = kept;
}

abbrev table_t : Table
table_t = table_of 1 2 (version_at 1 nothing_held
    ∷ version_at 4 (record { rows = insert empty 1 (row 7); partitions = [] }) ∷ [])

abbrev table_c : Table
table_c = table_of 3 1 (version_at 3 nothing_held ∷ [])

abbrev stream_s : Stream
stream_s = new_stream 1 false 2 table_t.columns

abbrev objects : List Object
objects = new_object (codes "T") (TableKind table_t) ∷ new_object (codes "S") (StreamKind stream_s)
    ∷ new_object (codes "C") (TableKind table_c) ∷ []

abbrev machine : Sessions → Machine
machine sessions = record { state = record { last = 6; committed = 4; objects = objects }; sessions = sessions }

ruleset steps = (layers, map_steps)

-- SELECT K FROM S
abbrev from_s : WrittenQuery
from_s = select (only (column k)) (object name_s)

select_read : (m : Machine) (o : Outcome)
    → selects m 1 (ordered (from_s.reading (names_from 1 m.state.objects) 0) []) ≡ o
    → selects m 1 (bound_select (names_from 1 m.state.objects) from_s.tree []) ≡ o
unfolding bound_select
select_read m o is =
    ap (λ (r : QueryReading). selects m 1 (ordered (r (names_from 1 m.state.objects) 0) [])) from_s.is ∙ is

a_query_moves_nothing : selects (machine no_sessions) 1 (bound_select (names_from 1 objects) from_s.tree [])
    ≡ Does (Listing (k ∷ []) (row 7 ∷ [])) no_sessions None
unfolding selects seen reading_refusal shown net digits first_failing source_step core_step query_step typing.step
    column_at eval listed fold_bag val values_on
a_query_moves_nothing = select_read (machine no_sessions) _ (simp steps)

-- INSERT INTO C SELECT K FROM S
abbrev from_s_to_c : Dml
from_s_to_c = dml.Insert (codes "C") None (rows.Query from_s.tree)

insert_read : (m : Machine) (session : ℕ) (o : Outcome)
    → changes_in m session (transaction_in m.sessions session) (bound_changed m session
    (insert_query (target_at (names_from 1 m.state.objects) (codes "C")) None
    (from_s.reading (names_from 1 m.state.objects) 0))) ≡ o
    → changes_rows m session (change_in m from_s_to_c) ≡ o
unfolding changes_rows bound_change
insert_read m session o is =
    ap (λ (r : QueryReading). changes_in m session (transaction_in m.sessions session) (bound_changed m session
    (insert_query (target_at (names_from 1 m.state.objects) (codes "C")) None (r (names_from 1 m.state.objects) 0))))
    from_s.is ∙ is

-- as a session's change
abbrev moved_on : Machine → ℕ → Outcome
moved_on m session = changes_rows m session (change_in m from_s_to_c)

abbrev one_row : Edits
one_row = record { rows = empty; added = row 7 ∷ [] }

-- its start is the stamp before its own
a_change_moves_the_offset_at_once : moved_on (machine no_sessions) 1
    ≡ Does (Changed (Inserted 1)) no_sessions (Some (EditsRows 3 one_row ∷ MovesOffset 2 5 ∷ []))
unfolding seen reading_refusal shown net digits first_failing source_step core_step query_step typing.step column_at
    eval listed fold_bag val values_on effect staged later_edits acts_of past_limit edits_from
    partitions_made
a_change_moves_the_offset_at_once = insert_read (machine no_sessions) 1 _ (simp steps)

-- ---- in a transaction of the number 5

abbrev in_transaction : Sessions
in_transaction = with_transaction no_sessions 1 (begun 5)

abbrev holding : Transaction
holding = record {
  number = 5;
  tables = insert empty 3 (record { edits = one_row; is_touched = true });
  streams = 2 ∷ [];
}

a_stream_is_held : moved_on (machine in_transaction) 1
    ≡ Does (Changed (Inserted 1)) (with_transaction no_sessions 1 holding) None
unfolding seen reading_refusal shown net digits first_failing source_step core_step query_step typing.step column_at
    eval listed fold_bag val values_on effect staged later_edits edits_from
a_stream_is_held = insert_read (machine in_transaction) 1 _ (simp steps)

its_commit_moves_the_offset : commit (machine (with_transaction no_sessions 1 holding)) 1
    ≡ Does (Committed 6) no_sessions (Some (EditsRows 3 one_row ∷ MovesOffset 2 4 ∷ []))
unfolding commit acts_of past_limit partitions_made
its_commit_moves_the_offset = simp map_steps

others_are_locked_out : moved_on (machine (with_transaction no_sessions 1 holding)) 2
    ≡ Refuses (Locked 5)
unfolding reading_refusal first_failing source_step core_step query_step typing.step column_at
others_are_locked_out = insert_read (machine (with_transaction no_sessions 1 holding)) 2 _ (simp steps)

-- ---- streams that can't be read

-- streams 5, 2 and 3 on a live table 4, and on a table 1 that was dropped
abbrev stream_on : ℕ → List ℕ → Object
stream_on source name = new_object name (StreamKind (new_stream source false 2 []))

abbrev gone_and_stale : List Object
gone_and_stale = dropped (new_object (codes "T") (TableKind table_t)) ∷ stream_on 1 (codes "A")
    ∷ stream_on 1 (codes "B") ∷ new_object (codes "U") (TableKind table_t) ∷ stream_on 4 (codes "D") ∷ []

-- 14 days and two stamps: the sources are tested first, and of them the least id
sources_before_offsets : (reading_refusal gone_and_stale 1209600003 (5 ∷ 3 ∷ 2 ∷ []) ≡ Some (SourceGone (codes "A")))
    × (reading_refusal gone_and_stale 1209600003 (4 ∷ 5 ∷ []) ≡ Some (StaleStream 2 1209600002))
    × (reading_refusal gone_and_stale 1209600002 (4 ∷ 5 ∷ []) ≡ None)
unfolding reading_refusal
sources_before_offsets = (refl, refl, refl)

-- ---- streams as objects

kinds_are_told_apart : text first (asked event_t ∷ asked (st.CreateStream (codes "S") (codes "T") false)
    ∷ asked (st.HasData (codes "S")) ∷ asked (st.HasData (codes "T")) ∷ asked (st.DropTable (codes "S"))
    ∷ asked (st.DropStream (codes "T")) ∷ asked (st.DropStream (codes "S")) ∷ asked (st.HasData (codes "S")) ∷ [])
    ≡ codes "CREATED TABLE T\nCREATED STREAM S\nFALSE\nE8 WrongKind T\nE8 WrongKind S\n"
    ++ codes "E8 WrongKind T\nDROPPED STREAM S\nE6 UnknownName S\n"
unfolding step commanded ddl.bound first_failing carried_out defines create_table table_refusal create_stream
    stream_refusal drop_table drop_stream has_data reading_refusal shown print digits
kinds_are_told_apart = refl

it_has_rows : has_data (machine no_sessions) 1 None 2 ≡ Does (HasData true) no_sessions None
unfolding has_data reading_refusal shown net digits
it_has_rows = simp steps

-- ---- offsets

-- in the commit that consumes it an offset moves up to the start, and never back
offsets : (offset_move 9 3 (Some (new_stream 1 false 5 [])) ≡ MovesOffset 3 9 ∷ [])
    × (offset_move 5 3 (Some (new_stream 1 false 5 [])) ≡ [])
    × (offset_move 3 3 (Some (new_stream 1 false 5 [])) ≡ [])
offsets = (refl, refl, refl)

-- each stream once, by rising ids
read_once : with_streams (7 ∷ 3 ∷ 7 ∷ 5 ∷ []) (4 ∷ 5 ∷ []) ≡ 3 ∷ 4 ∷ 5 ∷ 7 ∷ []
read_once = refl

-- a commit of a stream that is read alone has no change where its offset stays, and is a commit
commits : (acts_of_commit [] [] [] ≡ None) × (acts_of_commit (3 ∷ []) [] [] ≡ Some [])
commits = (refl, refl)
