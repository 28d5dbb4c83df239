use Rattle.std.proofs.Common.{arith}
use Rattle.std.proofs.lemmas.Grind.{common_steps}
use Rattle.wh_expr_bind.proofs.ListLemmas.{places_among_turn}
use Rattle.wh_expr_bind.proofs.columns.add_places.Goals as goal
use Rattle.wh_expr_bind.proofs.columns.add_places.Goals.{then-eq+in_ok-place+in_ok-push, else-eq}

pub loop-index-preserved : goal.loop-index-preserved
loop-index-preserved c =
    let turn = places_among_turn c.args.name.now c.args.from c.args.columns.now c.loop-index.index
    c.index-columns-index.result c.loop-index-test.true c.index-columns-index.is in
    elim c.if-eq.branch [
      | then-eq+in_ok-place+in_ok-push w ↦ grind (arith, common_steps)
      | else-eq w ↦ grind (arith, common_steps)
    ]
