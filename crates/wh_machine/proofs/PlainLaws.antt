-- What keeps a sound machine sound without dynamic tables.
--     still_commits           a commit of acts that leave rows and dynamic tables
--     acts_plain              the acts of a transaction that commits
--     recorded_keeps, changed_keeps     a transaction that commits, and a change of rows
--     ends_keep               a task's end behind other acts
use Rattle.std.proofs.Common.{◌≡◌, ℕ, suc, zero, ◌≤◌, Bool, true, false, cond, List, [], ◌∷◌, ◌++◌, map}
use Rattle.std.proofs.Common.{Option, Some, None, IsTrue, refl, sym, subst, ◌∙◌, arith}
use Rattle.std.specs.Prelude.{nat_lt}
use Rattle.std.specs.List.{AllByRecursion}
use Rattle.std.specs.Option.{IsSomeAnd, option_and_then}
use Rattle.std.specs.FinMap.{get, entries, get-insert, get-empty}
use Rattle.std.specs.Cmp.{nat_cmp_total}
use Rattle.std.specs.Ordering.{nat_cmp, eq_by_cmp}
use Rattle.wh_reply.specs.Reply.{Reply}
use Rattle.wh_state.proofs.StillActs.{IsStill}
use Rattle.wh_state.specs.State.{Kind, TableKind, StreamKind, TaskKind, DynamicKind, Object, Stream, at_id, dynamic_in}
use Rattle.wh_state.specs.Task.{Task, Ending}
use Rattle.wh_state.specs.Objects.{is_table, as_dynamic, table_at, stream_at, dynamic_at}
use Rattle.wh_state.specs.Act.{Act, MakesTable, DropsObject, EditsRows, MakesStream, MovesOffset, MakesTask, PutsTask}
use Rattle.wh_state.specs.Act.{BeginsRun, EndsTask, MakesDynamic, PutsDynamic, RefreshesRows}
use Rattle.wh_state.proofs.AllLaws.{all_map, all_append, all_filter, all_with}
use Rattle.wh_state.proofs.RowLaws.{number_tied}
use Rattle.wh_state.proofs.PlainActs.{ArePlain, no_more_edit, plain_edit, plain_keep}
use Rattle.wh_effect.specs.Effect.{Effect}
use Rattle.wh_machine.specs.Offsets.{offset_move, offset_moves, acts_of_commit}
use Rattle.wh_machine.specs.Changes.{Changed, Fails, Gives, reply_to}
use Rattle.wh_machine.specs.Transaction.{Staged, Transaction, begun, start_of, staged, staged_in_state, edit_act}
use Rattle.wh_machine.specs.Transaction.{touched}
use Rattle.wh_machine.specs.Transaction.{with_effect, staged_in, next_row_of}
use Rattle.wh_machine.specs.Transaction.{acts_of, commit_refusal}
use Rattle.wh_machine.specs.Sessions.{Sessions, transaction_in}
use Rattle.wh_machine.specs.Outcome.{Machine, commits}
use Rattle.wh_machine.specs.Statements.{recorded, changes_in}
use Rattle.wh_machine.specs.Ticks.{end_acts, ends_as}
use Rattle.wh_machine.specs.Sound.{IsTableAt, ChangesTables, AllChangeTables}
use Rattle.wh_machine.proofs.EntryLaws.{RiseFrom, entries_rise}
use Rattle.wh_machine.proofs.GotLaws.{entries_hold}
use Rattle.wh_machine.proofs.TaskActs.{IsOfTasks, end_is}
use Rattle.wh_machine.proofs.KeepingLaws.{IsReady, KeepsState, IsKeeping, refused, does, tested}
use Rattle.wh_machine.proofs.TableNamed.{ChangesTable}

-- ---- acts that leave rows and dynamic tables

pub plain_commits : (m : Machine) (acts : List Act) → IsReady m → ArePlain m.state.last m.state.objects 0 acts
    → KeepsState m (Some acts)
plain_commits m acts ready plain = plain_keep m.state m.state.last ready.later ready.sound acts plain

pub still_commits : (m : Machine) (reply : Reply) (acts : List Act) → IsReady m
    → AllByRecursion (IsStill m.state.last) acts
    → IsKeeping m (commits m reply acts)
still_commits m reply acts ready still =
    does m reply m.sessions (Some acts) (plain_commits m acts ready (no_more_edit still)) ready.tables

-- acts of tasks alone
task_still : (stamp : ℕ) (act : Act) → IsOfTasks act → IsStill stamp act
task_still stamp (PutsTask id state) is = tt
task_still stamp (BeginsRun root tasks) is = tt
task_still stamp (EndsTask root task ending) is = tt
task_still stamp (MakesTable name columns retention) is = absurd is
task_still stamp (DropsObject id) is = absurd is
task_still stamp (EditsRows id e) is = absurd is
task_still stamp (MakesStream name source is_append_only) is = absurd is
task_still stamp (MovesOffset id offset) is = absurd is
task_still stamp (MakesTask name minutes after runs) is = absurd is
task_still stamp (MakesDynamic name lag is_incremental query columns) is = absurd is
task_still stamp (PutsDynamic id state) is = absurd is
task_still stamp (RefreshesRows id moment e c) is = absurd is

pub tasks_still : (stamp : ℕ) (acts : List Act) → AllByRecursion IsOfTasks acts → AllByRecursion (IsStill stamp) acts
tasks_still stamp acts are = all_map IsOfTasks (IsStill stamp) (task_still stamp) acts are

-- ---- the acts of a transaction

one_moves_within : (stamp start id : ℕ) → start ≤ stamp → (found : Option Stream)
    → AllByRecursion (IsStill stamp) (offset_move start id found)
one_moves_within stamp start id h None = tt
one_moves_within stamp start id h (Some s) = by_test (nat_lt s.offset start)
  where
    by_test : (later : Bool) → AllByRecursion (IsStill stamp) (cond later (MovesOffset id start ∷ []) [])
    by_test true = (h, tt)
    by_test false = tt

moves_within : (objects : List Object) (stamp start : ℕ) → start ≤ stamp → (ids : List ℕ)
    → AllByRecursion (IsStill stamp) (offset_moves objects start ids)
moves_within objects stamp start h [] = tt
moves_within objects stamp start h (id ∷ ids) =
    all_append (IsStill stamp) (offset_move start id (stream_at objects id)) (offset_moves objects start ids)
    (one_moves_within stamp start id h (stream_at objects id)) (moves_within objects stamp start h ids)

-- a table is no dynamic table
no_dynamic : (objects : List Object) (id : ℕ) → IsTableAt objects id → dynamic_at objects id ≡ None
no_dynamic objects id is = by_found (at_id objects id) is
  where
    by_kind : (k : Kind) → IsTrue (is_table k) → dynamic_in k ≡ None
    by_kind (TableKind t) is = refl
    by_kind (StreamKind s) is = refl
    by_kind (TaskKind t) is = refl
    by_kind (DynamicKind d t) is = absurd cc

    by_found : (found : Option Object) → IsSomeAnd found (λ o. IsTrue (is_table o.kind))
        → option_and_then as_dynamic found ≡ None
    by_found None is = refl
    by_found (Some o) is = by_kind o.kind is

edits_plain : (stamp least : ℕ) (objects : List Object) (found : List (ℕ × Staged)) (more : List Act)
    → RiseFrom least found → AllByRecursion (λ entry. IsTableAt objects entry.0) found
    → AllByRecursion (IsStill stamp) more
    → ArePlain stamp objects least (map edit_act found ++ more)
edits_plain stamp least objects [] more rising tables still = no_more_edit still
edits_plain stamp least objects (entry ∷ others) more rising tables still =
    plain_edit rising.0 (no_dynamic objects entry.0 tables.0)
    (edits_plain stamp (suc entry.0) objects others more rising.1 tables.1 still)

pub plain_more : (stamp : ℕ) (objects : List Object) (least : ℕ) (acts more : List Act)
    → ArePlain stamp objects least acts
    → AllByRecursion (IsStill stamp) more → ArePlain stamp objects least (acts ++ more)
plain_more stamp objects least acts more (no_more_edit still) others =
    no_more_edit (all_append (IsStill stamp) acts more still others)
plain_more stamp objects least (EditsRows id e ∷ acts) more (plain_edit from base rest) others =
    plain_edit from base (plain_more stamp objects (suc id) acts more rest others)

abbrev pub PlainActs : Machine → Option (List Act) → Type 0
PlainActs m None = Unit {0}
PlainActs m (Some acts) = ArePlain m.state.last m.state.objects 0 acts

pub acts_plain : (m : Machine) (t : Transaction) → t.number ≤ m.state.last → ChangesTables m.state.objects (Some t)
    → PlainActs m (acts_of m.state.objects t)
unfolding acts_of
acts_plain m t begun tables = by_streams t.streams (touched t) plain
  where
    moves : List Act
    moves = offset_moves m.state.objects (start_of t) t.streams

    plain : ArePlain m.state.last m.state.objects 0 (map edit_act (touched t) ++ moves)
    plain = edits_plain m.state.last 0 m.state.objects (touched t) moves (entries_rise t)
        (all_filter (λ entry. IsTableAt m.state.objects entry.0) (λ entry. entry.1.is_touched) (entries t.tables)
        (entries_hold (λ id s. IsTableAt m.state.objects id) t.tables tables))
        (moves_within m.state.objects m.state.last (start_of t) (omega (arith, begun)) t.streams)

    by_streams : (streams : List ℕ) (found : List (ℕ × Staged))
        → ArePlain m.state.last m.state.objects 0 (map edit_act found ++ moves)
        → PlainActs m (acts_of_commit streams moves (map edit_act found))
    by_streams [] [] plain = tt
    by_streams [] (entry ∷ others) plain = plain
    by_streams (id ∷ ids) found plain = plain

plain_keeps : (m : Machine) (acts : Option (List Act)) → IsReady m → PlainActs m acts → KeepsState m acts
plain_keeps m None ready plain = tt
plain_keeps m (Some acts) ready plain = plain_commits m acts ready plain

pub recorded_keeps : (m : Machine) (reply : Reply) (sessions : Sessions) (t : Transaction) → IsReady m
    → t.number ≤ m.state.last → ChangesTables m.state.objects (Some t) → AllChangeTables m.state.objects sessions
    → IsKeeping m (recorded m reply sessions t)
recorded_keeps m reply sessions t ready begun tables others =
    tested m (commit_refusal m.state.objects t) _ ready
    (does m reply sessions (acts_of m.state.objects t)
    (plain_keeps m (acts_of m.state.objects t) ready (acts_plain m t begun tables)) others)

-- ---- changes of rows

pub begun_tables : (objects : List Object) (stamp : ℕ) → ChangesTables objects (Some (begun stamp))
begun_tables objects stamp id s is = absurd (cc (get-empty {X = Staged} nat_cmp id, is))

-- with a change of a table more
pub staged_tables : (objects : List Object) (t : Transaction) (id : ℕ) (streams : List ℕ) (next : ℕ) (e : Effect)
    → ChangesTables objects (Some t) → IsTableAt objects id
    → ChangesTables objects (Some (staged t id streams next e))
unfolding staged
staged_tables objects t id streams next e tables is q s held =
    by_tie (eq_by_cmp nat_cmp q id) refl
    (sym (get-insert nat_cmp_total t.tables id (with_effect next e (staged_in (get t.tables id))) q) ∙ held)
  where
    by_tie : (tie : Bool) → eq_by_cmp nat_cmp q id ≡ tie
        → cond tie (Some (with_effect next e (staged_in (get t.tables id)))) (get t.tables q) ≡ Some s
        → IsTableAt objects q
    by_tie true tied held = subst (IsTableAt objects) (sym (number_tied q id tied)) is
    by_tie false tied held = tables q s held

staged_number : (t : Transaction) (id : ℕ) (streams : List ℕ) (next : ℕ) (e : Effect)
    → (staged t id streams next e).number ≡ t.number
unfolding staged
staged_number t id streams next e = refl

pub tables_of : (objects : List Object) (sessions : Sessions) (session : ℕ) → AllChangeTables objects sessions
    → ChangesTables objects (transaction_in sessions session)
tables_of objects [] session tables = tt
tables_of objects (one ∷ others) zero tables = tables.0
tables_of objects (one ∷ others) (suc session) tables = tables_of objects others session tables.1

-- of the session, or by itself
pub changed_keeps : (m : Machine) (session : ℕ) (t : Option Transaction) → transaction_in m.sessions session ≡ t
    → (c : Changed) → IsReady m → ChangesTable m.state.objects c
    → IsKeeping m (changes_in m session t c)
changed_keeps m session t is (Fails why) ready table = refused m why ready
changed_keeps m session None is (Gives id streams change e) ready table =
    recorded_keeps m (reply_to change e) m.sessions (staged_in_state m.state (begun m.state.last) id streams e) ready
    (omega (arith, staged_number (begun m.state.last) id streams (next_row_of (table_at m.state.objects id)) e))
    (staged_tables m.state.objects (begun m.state.last) id streams (next_row_of (table_at m.state.objects id)) e
    (begun_tables m.state.objects m.state.last) table) ready.tables
changed_keeps m session (Some t) is (Gives id streams change e) ready table =
    does m (reply_to change e) _ None tt
    (all_with (ChangesTables m.state.objects) m.sessions (suc session) _ ready.tables
    (staged_tables m.state.objects t id streams (next_row_of (table_at m.state.objects id)) e
    (subst (ChangesTables m.state.objects) is (tables_of m.state.objects m.sessions session ready.tables)) table))

-- ---- the end of a task

pub ends_keep : (m : Machine) (root : ℕ) (r : Task) (task : ℕ) (ending : Ending) (reply : Reply) (acts : List Act)
    → IsReady m → ArePlain m.state.last m.state.objects 0 acts
    → IsKeeping m (ends_as m root r task ending reply acts)
ends_keep m root r task ending reply acts ready plain =
    does m reply m.sessions _ (plain_commits m _ ready (plain_more m.state.last m.state.objects 0 acts
    (end_acts m.state.objects root r task ending) plain
    (tasks_still m.state.last _ (end_is m.state.objects root r task ending)))) ready.tables
