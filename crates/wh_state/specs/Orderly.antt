-- What holds of the partitions that stand in the tables of a file that runs leave.
--     IsOrderly           partitions with rising numbers, each with rows by rising number, apart from one another
--     IsOrderlyTable, IsOrderlyStored     so in each version of a table, and of each table
use Rattle.std.specs.Prelude.{List, [], map}
use Rattle.std.specs.List.{AllByRecursion}
use Rattle.std.specs.Option.{IfSome}
use Rattle.wh_frame.specs.Partition.{Partition}
use Rattle.wh_frame.specs.Spelling.{RisesFrom}
use Rattle.wh_state.specs.State.{table_in}
use Rattle.wh_state.specs.Stored.{StoredVersion, StoredTable, StoredKind, StoredObject, Stored}
use Rattle.wh_state.specs.Commit.{AllApart}
use Rattle.wh_state.specs.Spelling.{NumbersRiseFrom}

abbrev pub HasRisingRows : Partition → Type 0
HasRisingRows p = RisesFrom 0 p.rows

pub record IsOrderly (partitions : List Partition) : Type 0 where
  pub numbers : NumbersRiseFrom 0 (map (λ p. p.number) partitions)
  pub rows : AllByRecursion HasRisingRows partitions
  pub apart : AllApart [] partitions

abbrev pub IsOrderlyVersion : StoredVersion → Type 0
IsOrderlyVersion v = IsOrderly v.content

abbrev pub IsOrderlyTable : StoredTable → Type 0
IsOrderlyTable t = AllByRecursion IsOrderlyVersion t.versions

abbrev pub IsOrderlyKind : StoredKind → Type 0
IsOrderlyKind k = IfSome (table_in k) IsOrderlyTable

abbrev pub IsOrderlyObject : StoredObject → Type 0
IsOrderlyObject o = IsOrderlyKind o.kind

abbrev pub IsOrderlyStored : Stored → Type 0
IsOrderlyStored s = AllByRecursion IsOrderlyObject s.objects
