use Rattle.std.proofs.Common.{◌≡◌, ◌++◌, drop}
use Rattle.std.specs.Option.{option_map}
use Rattle.wh_algebra.specs.View.{calls_of}
use Rattle.wh_maintenance.specs.Standing.{answers}
use Rattle.wh_group.specs.Settling.{group_row}
use Rattle.wh_group.proofs.showing.push_answers.Given as goal

abbrev pub invariant-loop-i : goal.invariant-loop-i
invariant-loop-i l = group_row (calls_of l.calls) l.initial.row l.totals
    ≡ option_map (λ rest. l.row ++ rest) (answers (calls_of (drop l.i l.calls)) (drop l.i l.totals))
