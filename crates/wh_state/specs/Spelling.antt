-- The bytes of commits.
--     payload_of     a stamp, and a list of changes, each behind its tag
--     IsCommit       what a commit may be: numbers, names and values within the format
use Rattle.std.specs.Prelude.{◌≡◌, ℕ, ◌+◌, ◌-◌, ◌<◌, ◌≤◌, ◌^◌, Bool, true, false, List, [], ◌∷◌, ◌++◌, length, map}
use Rattle.std.specs.Prelude.{replicate, Option, Some, None, pos, negsuc, ◌≤ℤ◌}
use Rattle.std.specs.Option.{IfSome}
use Rattle.std.specs.List.{AllByRecursion, flat_map}
use Rattle.std.specs.List.Sorted.{IsStrictlySortedBy}
use Rattle.std.specs.Int.{w32, w64, to_be_bytes, cast_unsigned}
use Rattle.wh_value.specs.Value.{Row, row_cmp, IsText, IsRow}
use Rattle.wh_value.specs.Column.{Column, ColumnType, NumberType, VarcharType, BooleanType}
use Rattle.wh_frame.specs.Spelling.{text_bytes, list_bytes, value_bytes, partition_bytes, IsPartition}
use Rattle.wh_meaning.specs.Query.{Total}
use Rattle.wh_maintenance.specs.Standing.{Standing, nothing_yet}
use Rattle.wh_maintenance.specs.Entries.{GroupEntry}
use Rattle.wh_state.specs.Commit.{TableChange, VersionChange, StreamChange, Change, CreatesTable, Drops}
use Rattle.wh_state.specs.Commit.{PushesVersion, CreatesStream, SetsOffset, CreatesTask, SetsTask, StartsRun}
use Rattle.wh_state.specs.Commit.{CreatesDynamic, SetsDynamic, SetsGroups, DynamicChangeIn}
use Rattle.wh_state.specs.Commit.{FinishesTask, TaskChangeIn, InTexts, TextChange, TextCommit, Commit, as_text}
use Rattle.wh_state.specs.Dynamic.{Source, DynamicState, GroupsChange, IsQuerySpelled}
use Rattle.wh_state.specs.Task.{TaskState, Ending, Succeeded, Failed, Skipped, IsSpelled}

abbrev pub type_byte : ColumnType → ℕ
type_byte NumberType = 1
type_byte VarcharType = 2
type_byte BooleanType = 3

unfoldable pub column_bytes : Column → List ℕ
column_bytes c = text_bytes c.name ++ type_byte c.column_type ∷ []

unfoldable pub table_bytes : TableChange → List ℕ
table_bytes c = to_be_bytes w32 c.id ++ text_bytes c.name ++ c.retention ∷ [] ++ list_bytes column_bytes c.columns

unfoldable pub version_bytes : VersionChange → List ℕ
version_bytes c =
    to_be_bytes w32 c.id ++ to_be_bytes w64 c.data_timestamp ++ to_be_bytes w64 c.next_row ++ to_be_bytes w32 c.width
    ++ list_bytes (to_be_bytes w64) c.removed ++ list_bytes partition_bytes c.added

abbrev pub stream_kind_byte : Bool → ℕ
stream_kind_byte false = 1
stream_kind_byte true = 2

unfoldable pub stream_bytes : StreamChange → List ℕ
stream_bytes c = to_be_bytes w32 c.id ++ text_bytes c.name ++ to_be_bytes w32 c.source
    ++ stream_kind_byte c.is_append_only ∷ to_be_bytes w64 c.offset

unfoldable pub offset_bytes : ℕ → ℕ → List ℕ
offset_bytes id offset = to_be_bytes w32 id ++ to_be_bytes w64 offset

unfoldable pub task_bytes : TaskChangeIn InTexts → List ℕ
task_bytes c = to_be_bytes w32 c.id ++ text_bytes c.name ++ to_be_bytes w32 c.minutes
    ++ list_bytes (to_be_bytes w32) c.after ++ text_bytes c.runs.when ++ text_bytes c.runs.body

abbrev pub truth_byte : Bool → ℕ
truth_byte false = 0
truth_byte true = 1

unfoldable pub state_bytes : ℕ → TaskState → List ℕ
state_bytes id s = to_be_bytes w32 id ++ truth_byte s.is_resumed ∷ to_be_bytes w64 s.base
    ++ to_be_bytes w64 s.last_start ++ to_be_bytes w32 s.failures

unfoldable pub run_bytes : ℕ → List ℕ → List ℕ
run_bytes root tasks = to_be_bytes w32 root ++ list_bytes (to_be_bytes w32) tasks

abbrev pub ending_byte : Ending → ℕ
ending_byte Succeeded = 1
ending_byte Failed = 2
ending_byte Skipped = 3

unfoldable pub end_bytes : ℕ → ℕ → Ending → List ℕ
end_bytes root task ending = to_be_bytes w32 root ++ to_be_bytes w32 task ++ ending_byte ending ∷ []

unfoldable pub source_bytes : Source → List ℕ
source_bytes s = text_bytes s.name ++ to_be_bytes w32 s.id

abbrev pub mode_byte : Bool → ℕ
mode_byte false = 1
mode_byte true = 2

unfoldable pub dynamic_bytes : DynamicChangeIn InTexts → List ℕ
dynamic_bytes c = to_be_bytes w32 c.id ++ text_bytes c.name ++ to_be_bytes w32 c.lag
    ++ mode_byte c.is_incremental ∷ text_bytes c.query.text ++ list_bytes source_bytes c.query.sources
    ++ list_bytes column_bytes c.columns

unfoldable pub dynamic_state_bytes : ℕ → DynamicState → List ℕ
dynamic_state_bytes id s = to_be_bytes w32 id ++ to_be_bytes w32 s.lag ++ truth_byte s.is_suspended
    ∷ to_be_bytes w32 s.failures ++ to_be_bytes w64 s.tried ++ to_be_bytes w64 s.moment

abbrev pub total_bytes : Total → List ℕ
total_bytes t = to_be_bytes w64 (cast_unsigned w64 t.sum) ++ to_be_bytes w64 t.values

-- its rows, and a total for each call; one that is removed has no rows, and nothing added up
unfoldable pub standing_bytes : ℕ → Option Standing → List ℕ
standing_bytes calls None = to_be_bytes w64 0 ++ flat_map total_bytes (replicate calls nothing_yet)
standing_bytes calls (Some s) = to_be_bytes w64 s.rows ++ flat_map total_bytes s.totals

unfoldable pub entry_bytes : ℕ → GroupEntry → List ℕ
entry_bytes calls e = flat_map value_bytes e.key ++ standing_bytes calls e.group

unfoldable pub groups_bytes : ℕ → GroupsChange → List ℕ
groups_bytes id c = to_be_bytes w32 id ++ to_be_bytes w32 c.keys ++ to_be_bytes w32 c.calls
    ++ list_bytes (entry_bytes c.calls) c.entries

unfoldable pub change_bytes : TextChange → List ℕ
change_bytes (CreatesTable c) = 1 ∷ table_bytes c
change_bytes (Drops id) = 2 ∷ to_be_bytes w32 id
change_bytes (PushesVersion c) = 10 ∷ version_bytes c
change_bytes (CreatesStream c) = 3 ∷ stream_bytes c
change_bytes (SetsOffset id offset) = 11 ∷ offset_bytes id offset
change_bytes (CreatesTask c) = 4 ∷ task_bytes c
change_bytes (SetsTask id state) = 5 ∷ state_bytes id state
change_bytes (StartsRun root tasks) = 6 ∷ run_bytes root tasks
change_bytes (FinishesTask root task ending) = 7 ∷ end_bytes root task ending
change_bytes (CreatesDynamic c) = 8 ∷ dynamic_bytes c
change_bytes (SetsDynamic id state) = 9 ∷ dynamic_state_bytes id state
change_bytes (SetsGroups id c) = 12 ∷ groups_bytes id c

unfoldable pub text_payload : TextCommit → List ℕ
text_payload c = to_be_bytes w64 c.stamp ++ list_bytes change_bytes c.changes

-- of its texts
abbrev pub payload_of : Commit → List ℕ
payload_of c = text_payload (as_text c)

-- ---- what may be written

abbrev pub IsColumn : Column → Type 0
IsColumn c = IsText c.name

pub record IsTableChange (c : TableChange) : Type 0 where
  pub id : c.id < 2 ^ 32
  pub name : IsText c.name
  pub retention : c.retention < 256
  pub few : length c.columns < 2 ^ 32
  pub columns : AllByRecursion IsColumn c.columns

-- numbers rise, from a least one on
abbrev pub NumbersRiseFrom : ℕ → List ℕ → Type 0
NumbersRiseFrom least [] = Unit {0}
NumbersRiseFrom least (n ∷ ns) = (least ≤ n) × (n < 2 ^ 64) × NumbersRiseFrom (n + 1) ns

pub record IsVersionChange (c : VersionChange) : Type 0 where
  pub id : c.id < 2 ^ 32
  pub data_timestamp : c.data_timestamp < 2 ^ 64
  pub next_row : c.next_row < 2 ^ 64
  pub width : c.width < 2 ^ 32
  pub few_removed : length c.removed < 2 ^ 32
  pub removed : NumbersRiseFrom 0 c.removed
  pub few : length c.added < 2 ^ 32
  pub added : AllByRecursion (IsPartition c.width) c.added

pub record IsStreamChange (c : StreamChange) : Type 0 where
  pub id : c.id < 2 ^ 32
  pub name : IsText c.name
  pub source : c.source < 2 ^ 32
  pub offset : c.offset < 2 ^ 64

-- tasks by rising ids
pub record IsTaskChange (c : TaskChangeIn InTexts) : Type 0 where
  pub id : c.id < 2 ^ 32
  pub name : IsText c.name
  pub minutes : c.minutes < 2 ^ 32
  pub few : length c.after < 2 ^ 32
  pub after : AllByRecursion (λ id. id < 2 ^ 32) c.after
  pub when : IsText c.runs.when
  pub body : IsText c.runs.body

pub record IsTaskState (task : ℕ) (s : TaskState) : Type 0 where
  pub id : task < 2 ^ 32
  pub base : s.base < 2 ^ 64
  pub last_start : s.last_start < 2 ^ 64
  pub failures : s.failures < 2 ^ 32

-- ids rise, from a least one on
abbrev pub IdsRiseFrom : ℕ → List ℕ → Type 0
IdsRiseFrom least [] = Unit {0}
IdsRiseFrom least (id ∷ ids) = (least ≤ id) × (id < 2 ^ 32) × IdsRiseFrom (id + 1) ids

pub record IsRunChange (of_root : ℕ) (ids : List ℕ) : Type 0 where
  pub root : of_root < 2 ^ 32
  pub few : length ids < 2 ^ 32
  pub tasks : IdsRiseFrom 0 ids

pub record IsSource (s : Source) : Type 0 where
  pub name : IsText s.name
  pub id : s.id < 2 ^ 32

pub record IsDynamicChange (c : DynamicChangeIn InTexts) : Type 0 where
  pub id : c.id < 2 ^ 32
  pub name : IsText c.name
  pub lag : c.lag < 2 ^ 32
  pub query : IsText c.query.text
  pub few_sources : length c.query.sources < 2 ^ 32
  pub sources : AllByRecursion IsSource c.query.sources
  pub few : length c.columns < 2 ^ 32
  pub columns : AllByRecursion IsColumn c.columns

pub record IsDynamicState (table : ℕ) (s : DynamicState) : Type 0 where
  pub id : table < 2 ^ 32
  pub lag : s.lag < 2 ^ 32
  pub failures : s.failures < 2 ^ 32
  pub tried : s.tried < 2 ^ 64
  pub moment : s.moment < 2 ^ 64

-- a sum that 64 bits hold
pub record IsTotal (t : Total) : Type 0 where
  pub least : negsuc (2 ^ 63 - 1) ≤ℤ t.sum
  pub most : t.sum ≤ℤ pos (2 ^ 63 - 1)
  pub values : t.values < 2 ^ 64

pub record IsStanding (calls : ℕ) (s : Standing) : Type 0 where
  pub some : 0 < s.rows
  pub few : s.rows < 2 ^ 64
  pub all : length s.totals ≡ calls
  pub totals : AllByRecursion IsTotal s.totals

pub record IsGroupEntry (keys calls : ℕ) (e : GroupEntry) : Type 0 where
  pub width : length e.key ≡ keys
  pub key : IsRow e.key
  pub group : IfSome e.group (IsStanding calls)

abbrev pub keys_of : List GroupEntry → List Row
keys_of entries = map (λ e. e.key) entries

-- entries by rising key
pub record IsGroupsChange (table : ℕ) (c : GroupsChange) : Type 0 where
  pub id : table < 2 ^ 32
  pub keys : c.keys < 2 ^ 32
  pub calls : c.calls < 2 ^ 32
  pub few : length c.entries < 2 ^ 32
  pub rising : IsStrictlySortedBy row_cmp (keys_of c.entries)
  pub entries : AllByRecursion (IsGroupEntry c.keys c.calls) c.entries

abbrev pub IsChange : TextChange → Type 0
IsChange (CreatesTable c) = IsTableChange c
IsChange (Drops id) = id < 2 ^ 32
IsChange (PushesVersion c) = IsVersionChange c
IsChange (CreatesStream c) = IsStreamChange c
IsChange (SetsOffset id offset) = (id < 2 ^ 32) × (offset < 2 ^ 64)
IsChange (CreatesTask c) = IsTaskChange c
IsChange (SetsTask id state) = IsTaskState id state
IsChange (StartsRun root tasks) = IsRunChange root tasks
IsChange (FinishesTask root task ending) = (root < 2 ^ 32) × (task < 2 ^ 32)
IsChange (CreatesDynamic c) = IsDynamicChange c
IsChange (SetsDynamic id state) = IsDynamicState id state
IsChange (SetsGroups id c) = IsGroupsChange id c

pub record IsTextCommit (c : TextCommit) : Type 0 where
  pub stamp : c.stamp < 2 ^ 64
  pub few : length c.changes < 2 ^ 32
  pub changes : AllByRecursion IsChange c.changes

-- its texts spell what they stand for
abbrev pub IsUnderstood : Change → Type 0
IsUnderstood (CreatesTask c) = IsSpelled c.runs
IsUnderstood (CreatesDynamic c) = IsQuerySpelled c.query
IsUnderstood _ = Unit {0}

-- whose texts are within the format, and spell what they stand for
pub record IsCommit (c : Commit) : Type 0 where
  pub written : IsTextCommit (as_text c)
  pub understood : AllByRecursion IsUnderstood c.changes
