use Rattle.std.proofs.Common.{◌≡◌, take}
use Rattle.wh_version.specs.Lasting.{partitions_in}
use Rattle.wh_table.specs.Apart.{highest_number}
use Rattle.wh_table.proofs.numbers.highest_kept.Given as goal

abbrev pub invariant-loop-one : goal.invariant-loop-one
invariant-loop-one l = l.so_far ≡ highest_number (partitions_in (take l.one-index l.kept))
