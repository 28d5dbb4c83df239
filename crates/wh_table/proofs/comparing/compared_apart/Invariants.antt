use Rattle.std.proofs.Common.{◌≡◌, map, drop, take, filter}
use Rattle.wh_state.specs.Edits.{without}
use Rattle.wh_version.specs.Lasting.{is_standing, partitions_in}
use Rattle.wh_table.specs.Apart.{all_apart}
use Rattle.wh_table.proofs.Apart.{turned}
use Rattle.wh_table.proofs.comparing.compared_apart.Given as goal

abbrev pub invariant-loop-place : goal.invariant-loop-place
invariant-loop-place g l =
    all_apart (turned (without l.removed (partitions_in (filter is_standing l.kept)))
    (take l.place (map g.P.Ranged.rows l.added)))
    (drop l.place (map g.P.Ranged.rows l.added))
    ≡ all_apart (without l.removed (partitions_in (filter is_standing l.kept))) (map g.P.Ranged.rows l.added)
