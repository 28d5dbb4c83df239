use Rattle.std.proofs.Common.{◌≤◌, length}
use Rattle.std.specs.Prelude.{vec_capacity}
use Rattle.wh_filed.specs.Filed.{filed_at, partitions_at, AreAmong}
use Rattle.wh_version.specs.History.{marks_of, filed_of}
use Rattle.wh_version.proofs.FrontLaws.{FrontUpTo, Grown}
use Rattle.wh_version.proofs.history.History.marked_front.Given as goal

abbrev pub invariant-loop-place : goal.invariant-loop-place
invariant-loop-place l =
    FrontUpTo l.stamp l.self.kept.items (marks_of l.self) l.self.first l.place l.before (partitions_at l.came.items)
    × (length l.came.items ≤ l.before) × (length l.self.kept.items ≤ vec_capacity l.came)
    × AreAmong (filed_at l.came.items) (filed_of l.self)

abbrev pub invariant-loop-index : goal.invariant-loop-index
invariant-loop-index l =
    Grown l.self.kept.items l.place l.before l.index (partitions_at l.initial.came.items) (partitions_at l.came.items)
    × (length l.came.items ≤ l.index) × (length l.self.kept.items ≤ vec_capacity l.came)
    × AreAmong (filed_at l.came.items) (filed_of l.self)
