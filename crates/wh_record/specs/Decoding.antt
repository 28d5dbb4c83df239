-- Reading what bytes give of commits.
use Rattle.std.specs.Prelude.{ℕ, zero, suc, ◌+◌, Bool, true, false, ◌&&◌, List, [], ◌∷◌, length, Option, Some, None}
use Rattle.std.specs.Prelude.{nat_le, nat_lt, nat_eq, pos, ◌==◌, ◌||◌, if◌then◌else◌}
use Rattle.std.specs.Int.{w32, w64, cast_signed}
use Rattle.std.specs.Ordering.{is_lt, eq_by_cmp, int_cmp}
use Rattle.wh_value.specs.Value.{Row, row_cmp}
use Rattle.wh_meaning.specs.Query.{Total}
use Rattle.wh_maintenance.specs.Standing.{Standing}
use Rattle.wh_maintenance.specs.Entries.{GroupEntry}
use Rattle.wh_value.specs.Column.{Column, ColumnType, NumberType, VarcharType, BooleanType}
use Rattle.wh_state.specs.Task.{TaskTexts, TaskState, Ending, Succeeded, Failed, Skipped}
use Rattle.wh_state.specs.Commit.{TableChange, VersionChange, StreamChange, TextChange, CreatesTable, Drops}
use Rattle.wh_state.specs.Commit.{PushesVersion, CreatesStream, SetsOffset, TextCommit, InTexts, TaskChangeIn}
use Rattle.wh_state.specs.Commit.{CreatesTask, SetsTask, StartsRun, FinishesTask, CreatesDynamic, SetsDynamic}
use Rattle.wh_state.specs.Commit.{SetsGroups, DynamicChangeIn}
use Rattle.wh_state.specs.Dynamic.{Source, DynamicTexts, DynamicState, GroupsChange}
use Rattle.wh_part.specs.Reading.{Reader, ◌>>=◌, then_at, where_at, as_at, items_at, list_at, byte_at, number_at}
use Rattle.wh_part.specs.Reading.{text_at}
use Rattle.wh_part.specs.Decoding.{value_at, partition_at}

unfoldable pub type_at : Reader ColumnType
type_at [] = None
type_at (zero ∷ bytes) = None
type_at (suc zero ∷ bytes) = Some (NumberType, bytes)
type_at (suc (suc zero) ∷ bytes) = Some (VarcharType, bytes)
type_at (suc (suc (suc zero)) ∷ bytes) = Some (BooleanType, bytes)
type_at (suc (suc (suc (suc tag))) ∷ bytes) = None

unfoldable pub column_at : Reader Column
column_at bytes = as_at (λ p. record { name = p.0; column_type = p.1 }) (then_at text_at (λ _. type_at)) bytes

unfoldable pub table_at : Reader TableChange
table_at bytes = as_at (λ p. record { id = p.0; name = p.1.0; retention = p.1.1.0; columns = p.1.1.1 })
    (then_at (number_at w32) (λ _. then_at text_at (λ _. then_at byte_at (λ _. list_at (number_at w32) column_at))))
    bytes

-- whether numbers rise, from a least one on
abbrev pub numbers_rise : ℕ → List ℕ → Bool
numbers_rise least [] = true
numbers_rise least (n ∷ ns) = nat_le least n && numbers_rise (n + 1) ns

unfoldable pub removed_at : Reader (List ℕ)
removed_at bytes = where_at (numbers_rise 0) (list_at (number_at w32) (number_at w64)) bytes

unfoldable pub version_at : Reader VersionChange
version_at bytes =
    as_at (λ p. record {
      id = p.0;
      data_timestamp = p.1.0;
      next_row = p.1.1.0;
      width = p.1.1.1.0;
      removed = p.1.1.1.1.0;
      added = p.1.1.1.1.1;
    })
    (then_at (number_at w32) (λ _. then_at (number_at w64) (λ _. then_at (number_at w64) (λ _. then_at (number_at w32)
    (λ width. then_at removed_at (λ _. list_at (number_at w32) (partition_at width))))))) bytes

-- whether a stream is append-only
unfoldable pub stream_kind_at : Reader Bool
stream_kind_at [] = None
stream_kind_at (zero ∷ bytes) = None
stream_kind_at (suc zero ∷ bytes) = Some (false, bytes)
stream_kind_at (suc (suc zero) ∷ bytes) = Some (true, bytes)
stream_kind_at (suc (suc (suc kind)) ∷ bytes) = None

unfoldable pub stream_at : Reader StreamChange
stream_at bytes =
    as_at (λ p. record { id = p.0; name = p.1.0; source = p.1.1.0; is_append_only = p.1.1.1.0; offset = p.1.1.1.1 })
    (then_at (number_at w32) (λ _. then_at text_at (λ _. then_at (number_at w32) (λ _. then_at stream_kind_at
    (λ _. number_at w64))))) bytes

-- the id of a stream, and its offset
unfoldable pub offset_at : Reader (ℕ × ℕ)
offset_at bytes = then_at (number_at w32) (λ _. number_at w64) bytes

-- ---- tasks

abbrev pub ids_at : Reader (List ℕ)
ids_at = list_at (number_at w32) (number_at w32)

-- of a condition, and of a body
unfoldable pub texts_at : Reader TaskTexts
texts_at bytes = as_at (λ p. record { when = p.0; body = p.1 }) (then_at text_at (λ _. text_at)) bytes

unfoldable pub task_at : Reader (TaskChangeIn InTexts)
task_at bytes =
    as_at (λ p. record { id = p.0; name = p.1.0; minutes = p.1.1.0; after = p.1.1.1.0; runs = p.1.1.1.1 })
    (then_at (number_at w32) (λ _. then_at text_at (λ _. then_at (number_at w32) (λ _. then_at ids_at
    (λ _. texts_at))))) bytes

unfoldable pub truth_at : Reader Bool
truth_at [] = None
truth_at (zero ∷ bytes) = Some (false, bytes)
truth_at (suc zero ∷ bytes) = Some (true, bytes)
truth_at (suc (suc truth) ∷ bytes) = None

-- the id of a task, and its state
unfoldable pub state_at : Reader (ℕ × TaskState)
state_at bytes =
    as_at (λ p. (p.0, record { is_resumed = p.1.0; base = p.1.1.0; last_start = p.1.1.1.0; failures = p.1.1.1.1 }))
    (then_at (number_at w32) (λ _. then_at truth_at (λ _. then_at (number_at w64) (λ _. then_at (number_at w64)
    (λ _. number_at w32))))) bytes

unfoldable pub rising_ids_at : Reader (List ℕ)
rising_ids_at bytes = where_at (numbers_rise 0) ids_at bytes

-- the id of a root, and the tasks of its run
unfoldable pub run_at : Reader (ℕ × List ℕ)
run_at bytes = then_at (number_at w32) (λ _. rising_ids_at) bytes

unfoldable pub ending_at : Reader Ending
ending_at [] = None
ending_at (zero ∷ bytes) = None
ending_at (suc zero ∷ bytes) = Some (Succeeded, bytes)
ending_at (suc (suc zero) ∷ bytes) = Some (Failed, bytes)
ending_at (suc (suc (suc zero)) ∷ bytes) = Some (Skipped, bytes)
ending_at (suc (suc (suc (suc ending))) ∷ bytes) = None

-- the ids of a root and of a task of its run, and how that ended
unfoldable pub end_at : Reader (ℕ × (ℕ × Ending))
end_at bytes = then_at (number_at w32) (λ _. then_at (number_at w32) (λ _. ending_at)) bytes

-- ---- dynamic tables

unfoldable pub source_at : Reader Source
source_at bytes = as_at (λ p. record { name = p.0; id = p.1 }) (then_at text_at (λ _. number_at w32)) bytes

-- of a query, and what it names
unfoldable pub query_texts_at : Reader DynamicTexts
query_texts_at bytes =
    as_at (λ p. record { text = p.0; sources = p.1 }) (then_at text_at (λ _. list_at (number_at w32) source_at)) bytes

-- whether a dynamic table is incremental
unfoldable pub mode_at : Reader Bool
mode_at [] = None
mode_at (zero ∷ bytes) = None
mode_at (suc zero ∷ bytes) = Some (false, bytes)
mode_at (suc (suc zero) ∷ bytes) = Some (true, bytes)
mode_at (suc (suc (suc mode)) ∷ bytes) = None

unfoldable pub dynamic_at : Reader (DynamicChangeIn InTexts)
dynamic_at bytes =
    as_at (λ p. record {
      id = p.0;
      name = p.1.0;
      lag = p.1.1.0;
      is_incremental = p.1.1.1.0;
      query = p.1.1.1.1.0;
      columns = p.1.1.1.1.1;
    })
    (then_at (number_at w32) (λ _. then_at text_at (λ _. then_at (number_at w32) (λ _. then_at mode_at
    (λ _. then_at query_texts_at (λ _. list_at (number_at w32) column_at)))))) bytes

-- the id of a dynamic table, and its state
unfoldable pub dynamic_state_at : Reader (ℕ × DynamicState)
dynamic_state_at bytes =
    as_at (λ p. (
      p.0,
      record {
        lag = p.1.0;
        is_suspended = p.1.1.0;
        failures = p.1.1.1.0;
        tried = p.1.1.1.1.0;
        moment = p.1.1.1.1.1;
      },
    ))
    (then_at (number_at w32) (λ _. then_at (number_at w32) (λ _. then_at truth_at (λ _. then_at (number_at w32)
    (λ _. then_at (number_at w64) (λ _. number_at w64)))))) bytes

-- ---- groups of dynamic tables

unfoldable pub total_at : Reader Total
total_at bytes =
    as_at (λ p. record { sum = cast_signed w64 p.0; values = p.1 }) (then_at (number_at w64) (λ _. number_at w64)) bytes

abbrev pub is_nothing : Total → Bool
is_nothing t = eq_by_cmp int_cmp t.sum (pos 0) && nat_eq t.values 0

abbrev pub are_nothing : List Total → Bool
are_nothing [] = true
are_nothing (t ∷ ts) = is_nothing t && are_nothing ts

-- no rows have nothing added up
abbrev pub may_stand : ℕ → List Total → Bool
may_stand rows totals = nat_lt 0 rows || are_nothing totals

-- none where there are no rows
abbrev pub group_of : ℕ → List Total → Option Standing
group_of rows totals = if nat_lt 0 rows then Some (record { rows = rows; totals = totals }) else None

-- with a total for each call
unfoldable pub standing_at : ℕ → Reader (Option Standing)
standing_at calls bytes =
    as_at (λ p. group_of p.0 p.1)
    (where_at (λ p. may_stand p.0 p.1) (then_at (number_at w64) (λ _. items_at total_at calls))) bytes

abbrev pub key_at : ℕ → Reader Row
key_at keys = items_at value_at keys

unfoldable pub entry_at : ℕ → ℕ → Reader GroupEntry
entry_at keys calls bytes =
    as_at (λ p. record { key = p.0; group = p.1 }) (then_at (key_at keys) (λ _. standing_at calls)) bytes

-- whether a key is below the next one, if there is one
abbrev pub goes_before : Row → List GroupEntry → Bool
goes_before key [] = true
goes_before key (e ∷ es) = is_lt (row_cmp key e.key)

abbrev pub keys_rise : List GroupEntry → Bool
keys_rise [] = true
keys_rise (e ∷ es) = goes_before e.key es && keys_rise es

unfoldable pub entries_at : ℕ → ℕ → Reader (List GroupEntry)
entries_at keys calls bytes = where_at keys_rise (list_at (number_at w32) (entry_at keys calls)) bytes

-- the id of a dynamic table, and what is set of its groups
unfoldable pub groups_at : Reader (ℕ × GroupsChange)
groups_at bytes =
    as_at (λ p. (p.0, record { keys = p.1.0; calls = p.1.1.0; entries = p.1.1.1 }))
    (then_at (number_at w32) (λ _. then_at (number_at w32) (λ keys. then_at (number_at w32) (λ calls.
    entries_at keys calls)))) bytes

-- ---- commits

-- what a tag announces
abbrev pub change_behind : ℕ → Reader TextChange
change_behind tag bytes =
    if tag == 1 then as_at CreatesTable table_at bytes
    else if tag == 2 then as_at Drops (number_at w32) bytes
    else if tag == 3 then as_at CreatesStream stream_at bytes
    else if tag == 4 then as_at CreatesTask task_at bytes
    else if tag == 5 then as_at (λ p. SetsTask p.0 p.1) state_at bytes
    else if tag == 6 then as_at (λ p. StartsRun p.0 p.1) run_at bytes
    else if tag == 7 then as_at (λ p. FinishesTask p.0 p.1.0 p.1.1) end_at bytes
    else if tag == 8 then as_at CreatesDynamic dynamic_at bytes
    else if tag == 9 then as_at (λ p. SetsDynamic p.0 p.1) dynamic_state_at bytes
    else if tag == 10 then as_at PushesVersion version_at bytes
    else if tag == 11 then as_at (λ p. SetsOffset p.0 p.1) offset_at bytes
    else if tag == 12 then as_at (λ p. SetsGroups p.0 p.1) groups_at bytes
    else None

unfoldable pub change_at : Reader TextChange
change_at bytes = byte_at bytes >>= λ tag. change_behind tag.0 tag.1

unfoldable pub commit_at : Reader TextCommit
commit_at bytes = as_at (λ p. record { stamp = p.0; changes = p.1 })
    (then_at (number_at w64) (λ _. list_at (number_at w32) change_at)) bytes

-- the commit that all of the bytes spell
unfoldable pub commit_of_all : List ℕ → Option TextCommit
commit_of_all bytes = commit_at bytes >>= λ c. if length c.1 == 0 then Some c.0 else None
