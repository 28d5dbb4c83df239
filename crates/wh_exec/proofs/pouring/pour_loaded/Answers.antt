use Rattle.std.proofs.Common.{ap, ◌∙◌}
use Rattle.wh_exec.proofs.BatchLaws.{rows_loaded}
use Rattle.wh_exec.proofs.pouring.pour_loaded.Goals as goal

pub loop-part-preserved : goal.loop-part-preserved
loop-part-preserved g c =
    rows_loaded c.args.parts.now c.loop-part.part-index c.part-item.result _ _ _ c.loop-part-test.true c.part-item.is
    c.loop-part.invariant c.in_ok-put_numbered.ensures
    (c.rows.ensures.rows ∙ ap (λ p. p.rows) c.deref.ensures)
