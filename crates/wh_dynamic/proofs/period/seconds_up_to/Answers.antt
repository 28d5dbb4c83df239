use Rattle.std.proofs.Common.{arith}
use Rattle.wh_dynamic.proofs.PeriodLemmas.{doubled_on}
use Rattle.wh_dynamic.proofs.period.seconds_up_to.Goals as goal

pub loop-preserved : goal.loop-preserved
loop-preserved c =
    record {
      same = doubled_on c.loop.counter 14 c.args.lag c.loop.seconds _ c.loop-test.true
          (omega (arith, c.if-seconds-lag.false)) c.loop.invariant.same;
      positive = omega (arith, c.loop.invariant.positive);
      bounded = omega (arith, c.if-seconds-lag.false, c.well_formed);
    }
