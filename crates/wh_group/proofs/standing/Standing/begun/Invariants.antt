use Rattle.std.proofs.Common.{◌≡◌, ◌++◌, drop}
use Rattle.wh_algebra.specs.View.{calls_of}
use Rattle.wh_maintenance.specs.Standing.{begun}
use Rattle.wh_group.proofs.standing.Standing.begun.Given as goal

abbrev pub invariant-loop : goal.invariant-loop
invariant-loop l = begun (calls_of l.calls) ≡ l.totals.items ++ begun (calls_of (drop l.index l.calls))
