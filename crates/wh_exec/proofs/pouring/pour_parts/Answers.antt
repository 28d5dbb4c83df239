use Rattle.std.proofs.lemmas.Result.{err_from_is_err_and}
use Rattle.wh_exec.proofs.PartLaws.{meant-none, part_more, part_stops}
use Rattle.wh_exec.proofs.pouring.pour_parts.Goals as goal

pub loop-part-init : goal.loop-part-init
loop-part-init g c = meant-none c.args.steps.now c.args.sink.now

pub loop-part-preserved : goal.loop-part-preserved
loop-part-preserved g c =
    part_more c.args.steps.now c.args.parts.now c.loop-part.part-index c.part-item.result c.loop-part-test.true
    c.part-item.is c.loop-part.invariant c.in_ok-pour_part.ensures

pub returns-in_err-pour_part : goal.returns-in_err-pour_part
returns-in_err-pour_part g c =
    let p = err_from_is_err_and c.from_residual.result c.from_residual.ensures.1 in
    rw (p.1, p.2) (part_stops c.args.steps.now c.args.parts.now c.loop-part.part-index c.part-item.result
    c.loop-part-test.true c.part-item.is c.loop-part.invariant _ c.pour_part.new.sink c.in_err-pour_part.ensures)
