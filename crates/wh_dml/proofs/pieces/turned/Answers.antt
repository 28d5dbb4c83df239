use Rattle.wh_effect.specs.Effect.{turned}
use Rattle.wh_dml.specs.View.{effect_of}
use Rattle.wh_dml.proofs.PieceLaws.{answered}
use Rattle.wh_dml.proofs.pieces.turned.Goals as goal

pub returns : goal.returns
returns g c = λ meant answers.
    c.joined.ensures meant c.args.target.now
    (answered effect_of (turned meant) g.F.Fn c.args.f.now c.args.workers.now.count c.args.target.now c.in_ok-pieces.pieces.items answers
    c.in_ok-pieces.ensures)
