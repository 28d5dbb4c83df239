use Rattle.wh_meaning.specs.Scalar.{val}
use Rattle.wh_scalar.specs.View.{scalar_of, Tells}
use Rattle.wh_exec.proofs.EachLaws.{answers_as}
use Rattle.wh_exec.proofs.each.truths.Goals as goal

pub returns : goal.returns
returns g c =
    answers_as _ _ c.args.tuples.now c.each_row.result c.each_row.ensures
    (λ row answer. Tells answer (val (scalar_of c.args.condition.now) row)) (λ row answer post. post)
