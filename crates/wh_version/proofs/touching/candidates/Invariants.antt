use Rattle.std.proofs.Common.{◌≡◌, ◌++◌, drop, Contains}
use Rattle.std.specs.List.{AllByRecursion}
use Rattle.wh_filed.specs.Filed.{filed_at, partitions_at}
use Rattle.wh_state.specs.Edits.{touched}
use Rattle.wh_version.specs.Lasting.{filed_in}
use Rattle.wh_version.proofs.Touched.{touched_of}
use Rattle.wh_version.proofs.touching.candidates.Given as goal

abbrev pub invariant-loop-one : goal.invariant-loop-one
invariant-loop-one l =
    (touched l.edits (partitions_at l.found.items) ++ touched_of l.edits (drop l.one-index l.kept)
    ≡ touched_of l.edits l.kept)
    × AllByRecursion (Contains (filed_in l.kept)) (filed_at l.found.items)
