use Rattle.wh_meaning.specs.Query.{values_on}
use Rattle.wh_algebra.specs.View.{scalars_of}
use Rattle.wh_aggregate.specs.Given.{Gives}
use Rattle.wh_exec.proofs.EachLaws.{answers_as}
use Rattle.wh_exec.proofs.each.images.Goals as goal

pub returns : goal.returns
returns g c =
    answers_as _ _ c.args.tuples.now c.each_row.result c.each_row.ensures
    (λ row answer. Gives answer (values_on (scalars_of c.args.items.now) row)) (λ row answer post. post)
