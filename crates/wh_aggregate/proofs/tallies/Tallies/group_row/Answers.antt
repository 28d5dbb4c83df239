use Rattle.std.proofs.Common.{◌∙◌, ap, length, arith}
use Rattle.wh_aggregate.proofs.LoopLemmas.{answered_all}
use Rattle.wh_aggregate.proofs.tallies.Tallies.group_row.Goals as goal

pub returns : goal.returns
returns c =
    let seen = ap length c.self.view_is in
    let sized = c.self.inside.tallies.ok.0 in
    c.loop-i.invariant
    ∙ answered_all c.args.calls.now c.args.self.now c.loop-i.row c.loop-i.i (omega (arith, seen, sized))
