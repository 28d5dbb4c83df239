use Rattle.std.proofs.Common.{arith}
use Rattle.wh_delta.proofs.Rising.{rise_by_steps}
use Rattle.wh_delta.proofs.moved.rises.Goals as goal

pub returns : goal.returns
returns c =
    rise_by_steps c.args.partitions.now (λ k d within. c.loop-place.invariant k d (omega (arith, c.loop-place-test.false)))
