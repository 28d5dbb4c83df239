-- What the records of a file say, and the state that it means.
--     StoredTable, StoredKind, Stored     objects as records say them: a version holds its partitions
--     rows_of                             the rows of partitions
--     meant, Means                        the state that is meant
use Rattle.std.specs.Prelude.{◌≡◌, ℕ, List, [], map}
use Rattle.std.specs.List.{flat_map}
use Rattle.std.specs.FinMap.{empty}
use Rattle.wh_frame.specs.Partition.{Partition}
use Rattle.wh_state.specs.State.{VersionOf, TableOf, ObjectOf, KindOf, Rows, Contents, Version, Table, Kind, Object}
use Rattle.wh_state.specs.State.{State, last_content, with_entries, on_table}

abbrev pub StoredVersion : Type 0
StoredVersion = VersionOf (List Partition)

abbrev pub StoredTable : Type 0
StoredTable = TableOf (List Partition)

abbrev pub StoredKind : Type 0
StoredKind = KindOf StoredTable

abbrev pub StoredObject : Type 0
StoredObject = ObjectOf StoredKind

-- the stamp of the last commit, and the objects in order of creation
pub record Stored : Type 0 where
  pub last : ℕ
  pub objects : List StoredObject

abbrev pub first_stored : Stored
first_stored = record { last = 0; objects = [] }

-- those that stand in a table's last version
abbrev pub standing : StoredTable → List Partition
standing t = last_content [] t

-- exactly the rows of these partitions
abbrev pub rows_of : List Partition → Rows
rows_of partitions = with_entries empty (flat_map (λ p. p.rows) partitions)

abbrev pub contents_meant : List Partition → Contents
contents_meant partitions = record { rows = rows_of partitions; partitions = partitions }

abbrev pub version_meant : StoredVersion → Version
version_meant v = record { stamp = v.stamp; data_timestamp = v.data_timestamp; content = contents_meant v.content }

abbrev pub table_meant : StoredTable → Table
table_meant t = record {
  created = t.created;
  columns = t.columns;
  retention = t.retention;
  next_row = t.next_row;
  next_partition = t.next_partition;
  versions = map version_meant t.versions;
}

abbrev pub kind_meant : StoredKind → Kind
kind_meant k = on_table table_meant k

abbrev pub object_meant : StoredObject → Object
object_meant o = record { name = o.name; is_live = o.is_live; kind = kind_meant o.kind }

abbrev pub meant : Stored → State
meant s = record { last = s.last; committed = s.last; objects = map object_meant s.objects }

abbrev pub Means : Stored → State → Type 0
Means s state = state ≡ meant s
