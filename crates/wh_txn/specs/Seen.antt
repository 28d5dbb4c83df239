-- What a statement sees of a table.
--     own                    what a transaction has staged for a table
--     partitions_standing    the partitions in which its rows stand
--     StandsAt               the table of the machine whose rows stand in them
--     partitions_of          the partitions that were loaded and made of it
use Rattle.std.specs.Prelude.{◌≡◌, ℕ, List, [], ◌++◌, Option, Some, None}
use Rattle.std.specs.FinMap.{get}
use Rattle.wh_frame.specs.Partition.{Partition}
use Rattle.wh_filed.specs.Filed.{partitions_at, loaded_of}
use Rattle.wh_state.specs.State.{Table, last_rows}
use Rattle.wh_machine.specs.Transaction.{Staged, Transaction}
use Rattle.wh_table.specs.Shown.{HoldsRising}
use Rattle.wh_txn.specs.declared.standing.TableAt.{TableAt}
use Rattle.wh_txn.specs.declared.seeing.TableSeen.{TableSeen}

abbrev pub own : Option Transaction → ℕ → Option Staged
own None id = None
own (Some t) id = get t.tables id

-- ---- where its rows stand

-- those of the file, and then those that the transaction's own edits made
abbrev pub partitions_standing : TableAt → List Partition
partitions_standing at = partitions_at at.filed.items ++ at.made.items

-- the rows of its last version, or none where there is no table
abbrev pub StandsAt : TableAt → Option Table → Type 0
StandsAt at None = partitions_standing at ≡ []
StandsAt at (Some t) = HoldsRising (partitions_standing at) (last_rows t)

-- ---- loaded

-- those that were loaded, and then those that the transaction's own edits made
abbrev pub partitions_of : TableSeen → List Partition
partitions_of seen = loaded_of seen.stored.items ++ seen.made.items
