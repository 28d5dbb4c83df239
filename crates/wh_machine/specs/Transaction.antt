-- A transaction: what a session has changed and not committed.
--     Staged, Transaction     the edits of a table that is held; a number, the tables that are held, by their ids, and
--                             the streams that were read
--     begun, start_of         a new transaction, and the stamp that its streams are read up to
--     seen                    the state as a transaction sees it
--     staged                  a transaction with an effect more
--     acts_of                 the acts of its commit, or None where it touched no table and read no stream
--     past_limit, commit_refusal     the first number that its commit would bring past its limit
use Rattle.std.specs.Prelude.{ℕ, suc, ◌+◌, ◌-◌, Bool, false, ◌||◌, if◌then◌else◌, List, [], ◌∷◌, length, map}
use Rattle.std.specs.Prelude.{Option, Some, None, option_map, nat_lt}
use Rattle.std.specs.List.{filter}
use Rattle.std.specs.FinMap.{FinMap, empty, get, insert, entries}
use Rattle.std.specs.Ordering.{nat_cmp}
use Rattle.wh_value.specs.Limit.{bound}
use Rattle.wh_value.specs.declared.limit.Limit.{Limit}
use Rattle.wh_value.specs.declared.limit.Limit.TheVariants as limits
use Rattle.wh_reply.specs.Reply.{Refusal, OverLimit}
use Rattle.wh_effect.specs.Effect.{Effect}
use Rattle.wh_state.specs.State.{State, Object, Table}
use Rattle.wh_state.specs.Edits.{Edits, no_edits, later_edits}
use Rattle.wh_state.specs.Act.{Act, EditsRows, edited_object, table_partitions_made}
use Rattle.wh_state.specs.Objects.{table_at}
use Rattle.wh_machine.specs.Offsets.{with_streams, offset_moves, acts_of_commit}
use Rattle.wh_machine.specs.Changes.{edits_of, counted}

-- it is touched where a statement inserted, changed or deleted a row of it
pub record Staged : Type 0 where
  pub edits : Edits
  pub is_touched : Bool

pub record Transaction : Type 0 where
  pub number : ℕ
  pub tables : FinMap nat_cmp Staged
  -- by rising ids
  pub streams : List ℕ

abbrev pub begun : ℕ → Transaction
begun stamp = record { number = stamp; tables = empty; streams = [] }

-- no commit lies between a transaction's start and its number
abbrev pub start_of : Transaction → ℕ
start_of t = t.number - 1

-- a statement by itself is a transaction of its own
abbrev pub start_at : ℕ → Option Transaction → ℕ
start_at stamp None = start_of (begun stamp)
start_at stamp (Some t) = start_of t

-- ---- what a transaction sees: the committed objects, those that it holds with its own edits on them

abbrev pub with_own : ℕ → Option Staged → Object → Object
with_own stamp None o = o
with_own stamp (Some s) o = edited_object stamp stamp s.edits o

abbrev pub seen_from : ℕ → ℕ → FinMap nat_cmp Staged → List Object → List Object
seen_from stamp id tables [] = []
seen_from stamp id tables (o ∷ os) = with_own stamp (get tables id) o ∷ seen_from stamp (suc id) tables os

unfoldable pub seen : State → Option Transaction → State
seen s None = s
seen s (Some t) = record s { objects = seen_from s.last 1 t.tables s.objects }

-- ---- a statement more, which holds its target and the streams that it reads, whatever it does

abbrev pub staged_in : Option Staged → Staged
staged_in None = record { edits = no_edits; is_touched = false }
staged_in (Some s) = s

abbrev pub next_row_of : Option Table → ℕ
next_row_of None = 1
next_row_of (Some t) = t.next_row

abbrev pub with_effect : ℕ → Effect → Staged → Staged
with_effect next_row e s = record {
  edits = later_edits next_row s.edits (edits_of e);
  is_touched = s.is_touched || nat_lt 0 (counted e);
}

-- rows that are added are numbered behind those of the committed table
unfoldable pub staged : Transaction → ℕ → List ℕ → ℕ → Effect → Transaction
staged t id streams next_row e = record t {
  tables = insert t.tables id (with_effect next_row e (staged_in (get t.tables id)));
  streams = with_streams streams t.streams;
}

-- by the next row of the committed table
abbrev pub staged_in_state : State → Transaction → ℕ → List ℕ → Effect → Transaction
staged_in_state s t id streams e = staged t id streams (next_row_of (table_at s.objects id)) e

-- ---- its commit

abbrev pub edit_act : ℕ × Staged → Act
edit_act entry = EditsRows entry.0 entry.1.edits

abbrev pub touched : Transaction → List (ℕ × Staged)
touched t = filter (λ entry. entry.1.is_touched) (entries t.tables)

-- over the committed objects: a version for each table that was touched, and then the offset of each stream that was
-- read, both by rising ids
unfoldable pub acts_of : List Object → Transaction → Option (List Act)
acts_of objects t =
    acts_of_commit t.streams (offset_moves objects (start_of t) t.streams) (map edit_act (touched t))

abbrev pub row_past : List Object → ℕ × Staged → Bool
row_past objects entry =
    nat_lt (bound limits.RowNumber) (next_row_of (table_at objects entry.0) + length entry.1.edits.added)

abbrev pub next_partition_of : Edits → Option Table → ℕ
next_partition_of e None = 1
next_partition_of e (Some t) = t.next_partition + length (table_partitions_made e t)

abbrev pub partition_past : List Object → ℕ × Staged → Bool
partition_past objects entry =
    nat_lt (bound limits.PartitionNumber) (next_partition_of entry.1.edits (table_at objects entry.0))

abbrev pub first_past : (ℕ × Staged → Bool) → Limit → List (ℕ × Staged) → Option (ℕ × Limit)
first_past is_past which [] = None
first_past is_past which (entry ∷ others) =
    if is_past entry then Some (entry.0, which) else first_past is_past which others

abbrev pub or_else : Option (ℕ × Limit) → Option (ℕ × Limit) → Option (ℕ × Limit)
or_else None other = other
or_else (Some found) other = Some found

-- over the committed objects: the least id of a table that would pass a limit, and which; row numbers first
unfoldable pub past_limit : List Object → Transaction → Option (ℕ × Limit)
past_limit objects t = or_else (first_past (row_past objects) limits.RowNumber (touched t))
    (first_past (partition_past objects) limits.PartitionNumber (touched t))

abbrev pub commit_refusal : List Object → Transaction → Option Refusal
commit_refusal objects t = option_map (λ found. OverLimit found.1) (past_limit objects t)
