use Rattle.std.proofs.Common.{◌∙◌, arith}
use Rattle.wh_group.proofs.LoopLaws.{answered_all}
use Rattle.wh_group.proofs.showing.push_answers.Goals as goal

pub returns : goal.returns
returns c =
    c.loop-i.invariant ∙ answered_all c.args.calls.now c.args.totals.now c.loop-i.row c.loop-i.i (omega arith)
