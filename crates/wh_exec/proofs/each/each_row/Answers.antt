use Rattle.std.specs.Fn.{FnReturnsAt}
use Rattle.rayon.proofs.ToStd.{slice-AllZip}
use Rattle.std.proofs.Common.{ap, ◌∙◌}
use Rattle.wh_algebra.specs.Tuple.{row_in}
use Rattle.wh_exec.proofs.EachLaws.{says_each}
use Rattle.wh_exec.proofs.each.each_row.Goals as goal

pub returns : goal.returns
returns g c =
    let slice = ap (λ it. it.slice.now) c.map.ensures.base ∙ c.par_iter.ensures in
    let made = c.in_ok-answers.ensures in
    let chain = rw c.map.ensures.f at made.1 in
    says_each _ c.args.tuples.now c.in_ok-answers.answers made.0
    (slice-AllZip chain.0 c.args.tuples.now (chain.1 ∙ slice)
    (λ tuple r. FnReturnsAt g.F.Fn c.args.f.now (row_in tuple) r) made.0 chain.2)
    made.2
