use Rattle.std.proofs.Common.{◌≡◌, ◌++◌, drop, Contains}
use Rattle.std.specs.List.{AllByRecursion}
use Rattle.wh_filed.specs.Filed.{filed_at, partitions_at}
use Rattle.wh_version.specs.Lasting.{filed_in}
use Rattle.wh_table.proofs.StandingLaws.{staying}
use Rattle.wh_table.proofs.standing.standing_without.Given as goal

abbrev pub invariant-loop-one : goal.invariant-loop-one
invariant-loop-one l = record {
  partitions : partitions_at l.found.items ++ staying l.removed (drop l.one-index l.kept) ≡ staying l.removed l.kept;
  among : AllByRecursion (Contains (filed_in l.kept)) (filed_at l.found.items);
}
