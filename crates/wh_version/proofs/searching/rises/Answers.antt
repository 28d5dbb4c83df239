use Rattle.std.proofs.Common.{arith}
use Rattle.wh_version.proofs.Places.{adjacent_rise}
use Rattle.wh_version.proofs.searching.rises.Goals as goal

pub returns-clause-rising : goal.returns-clause-rising
returns-clause-rising c =
    adjacent_rise c.args.list.now (λ k d within. c.loop-place.invariant k d (omega (arith, c.loop-place-test.false)))
