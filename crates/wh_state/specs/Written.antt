-- The commit that is written for acts.
--     written        the changes that say what acts do
--     commit_for     the commit of acts at a stamp
--     kept_after     what the file says behind a commit, where there is one
--     is_beyond      whether a file has no room for it
use Rattle.std.specs.Prelude.{ℕ, ◌+◌, Bool, false, List, [], ◌∷◌, ◌++◌, length, Option, Some, None, option_map, nat_lt}
use Rattle.std.specs.Option.{option_to_list}
use Rattle.wh_state.specs.State.{at_id, table_in}
use Rattle.wh_state.specs.Edits.{Edits, numbers_gone, partitions_made}
use Rattle.wh_state.specs.Act.{Act, MakesTable, DropsObject, EditsRows, MakesStream, MovesOffset, MakesTask, PutsTask}
use Rattle.wh_state.specs.Act.{BeginsRun, EndsTask, MakesDynamic, PutsDynamic, RefreshesRows}
use Rattle.wh_state.specs.Stored.{StoredTable, StoredObject, Stored, standing}
use Rattle.wh_state.specs.Commit.{VersionChange, Change, CreatesTable, Drops, PushesVersion, CreatesStream, SetsOffset}
use Rattle.wh_state.specs.Commit.{Commit, CreatesTask, SetsTask, StartsRun, FinishesTask, CreatesDynamic, SetsDynamic}
use Rattle.wh_state.specs.Commit.{SetsGroups, all_changed, applied}
use Rattle.wh_state.specs.Dynamic.{GroupsChange}
use Rattle.wh_state.specs.Spelling.{payload_of}

-- ---- acts as changes

-- the version that edits of a table make, for a moment
abbrev pub version_change : ℕ → ℕ → Edits → StoredTable → VersionChange
version_change moment id e t = record {
  id = id;
  data_timestamp = moment;
  next_row = t.next_row + length e.added;
  width = length t.columns;
  removed = numbers_gone e.rows (standing t);
  added = partitions_made t.next_partition t.next_row e (standing t);
}

abbrev pub version_written : ℕ → ℕ → Edits → StoredTable → Change
version_written moment id e t = PushesVersion (version_change moment id e t)

abbrev pub version_written_to : ℕ → ℕ → Edits → Option StoredObject → List Change
version_written_to moment id e None = []
version_written_to moment id e (Some o) =
    option_to_list (option_map (version_written moment id e) (table_in o.kind))

-- what it does to groups stands right behind it
abbrev pub groups_written : ℕ → Option GroupsChange → List Change
groups_written id None = []
groups_written id (Some c) = SetsGroups id c ∷ []

abbrev pub act_written : ℕ → List StoredObject → Act → List Change
act_written stamp objects (MakesTable name columns retention) =
    CreatesTable (record { id = length objects + 1; name = name; retention = retention; columns = columns }) ∷ []
act_written stamp objects (DropsObject id) = Drops id ∷ []
act_written stamp objects (EditsRows id e) = version_written_to stamp id e (at_id objects id)
act_written stamp objects (MakesStream name source is_append_only) = CreatesStream (record {
  id = length objects + 1;
  name = name;
  source = source;
  is_append_only = is_append_only;
  offset = stamp;
}) ∷ []
act_written stamp objects (MovesOffset id offset) = SetsOffset id offset ∷ []
act_written stamp objects (MakesTask name minutes after runs) = CreatesTask
    (record { id = length objects + 1; name = name; minutes = minutes; after = after; runs = runs }) ∷ []
act_written stamp objects (PutsTask id state) = SetsTask id state ∷ []
act_written stamp objects (BeginsRun root tasks) = StartsRun root tasks ∷ []
act_written stamp objects (EndsTask root task ending) = FinishesTask root task ending ∷ []
act_written stamp objects (MakesDynamic name lag is_incremental query columns) = CreatesDynamic (record {
  id = length objects + 1;
  name = name;
  lag = lag;
  is_incremental = is_incremental;
  query = query;
  columns = columns;
}) ∷ []
act_written stamp objects (PutsDynamic id state) = SetsDynamic id state ∷ []
act_written stamp objects (RefreshesRows id moment e c) =
    version_written_to moment id e (at_id objects id) ++ groups_written id c

abbrev pub written : ℕ → List StoredObject → List Act → List Change
written stamp objects [] = []
written stamp objects (act ∷ acts) =
    act_written stamp objects act ++ written stamp (all_changed stamp objects (act_written stamp objects act)) acts

abbrev pub commit_for : Stored → ℕ → List Act → Commit
commit_for s stamp acts = record { stamp = stamp; changes = written stamp s.objects acts }

-- what the file says afterwards
abbrev pub kept_after : Stored → Option Commit → Stored
kept_after s None = s
kept_after s (Some c) = applied s c

-- ---- the room that commits need

-- a gate, the length, and the payload
abbrev pub record_length : Commit → ℕ
record_length c = 9 + length (payload_of c)

abbrev pub added_length : Option Commit → ℕ
added_length None = 0
added_length (Some c) = record_length c

-- whether a file of at most `most` bytes has no room for it behind a gate that ends at `end`
abbrev pub is_beyond : ℕ → ℕ → Option Commit → Bool
is_beyond most end None = false
is_beyond most end (Some c) = nat_lt most (end + record_length c)
