use Rattle.std.proofs.Common.{◌≡◌, ◌++◌, drop}
use Rattle.std.specs.Option.{option_map}
use Rattle.wh_algebra.specs.View.{calls_of}
use Rattle.wh_aggregate.specs.Tally.{answers}
use Rattle.wh_aggregate.specs.Groups.{group_row}
use Rattle.wh_aggregate.proofs.tallies.Tallies.group_row.Given as goal

abbrev pub invariant-loop-i : goal.invariant-loop-i
invariant-loop-i l = group_row (calls_of l.calls) l.fn.key l.self
    ≡ option_map (λ rest. l.row ++ rest) (answers (calls_of (drop l.i l.calls)) (drop l.i l.self))
