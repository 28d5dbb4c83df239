use Rattle.std.proofs.Common.{◌≡◌, map, drop}
use Rattle.wh_naming.specs.Select.{comes_again}
use Rattle.wh_bind.specs.View.{join_part}
use Rattle.wh_bind.proofs.joins.comes_again.Given as goal

abbrev pub invariant-loop-join : goal.invariant-loop-join
invariant-loop-join l =
    comes_again l.name (map join_part (drop l.join-index l.joins)) ≡ comes_again l.name (map join_part l.joins)
