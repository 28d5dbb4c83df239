-- Rows of its target that a change leaves as they are.
--     Leaves, LeavesEach     what becomes of a row, by itself, is that it stays; so of each row of a partition
use Rattle.std.specs.Prelude.{◌≡◌, Some}
use Rattle.std.specs.List.{AllByRecursion}
use Rattle.wh_value.specs.Value.{Row}
use Rattle.wh_frame.specs.Partition.{Partition}
use Rattle.wh_naming.specs.Changes.{Modification, InsertRows, InsertQuery, Update, Delete, Merge}
use Rattle.wh_effect.specs.Effect.{Stays, updated, deleted}

-- a row that INSERT or MERGE leaves isn't told by itself
abbrev pub Leaves : Modification → Row → Type 0
Leaves (InsertRows rows) row = ⊥
Leaves (InsertQuery query parts) row = ⊥
Leaves (Update condition parts) row = updated condition parts row ≡ Some Stays
Leaves (Delete condition) row = deleted condition row ≡ Some Stays
Leaves (Merge query on clauses) row = ⊥

abbrev pub LeavesEach : Modification → Partition → Type 0
LeavesEach change p = AllByRecursion (λ e. Leaves change e.1) p.rows
