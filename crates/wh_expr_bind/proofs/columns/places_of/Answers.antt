use Rattle.std.proofs.Common.{arith}
use Rattle.std.proofs.lemmas.Grind.{common_steps}
use Rattle.wh_expr_bind.proofs.ListLemmas.{width_turn, places_of_turn}
use Rattle.wh_expr_bind.proofs.columns.places_of.Goals as goal
use Rattle.wh_expr_bind.proofs.columns.places_of.Goals.{then-may_be_of+in_ok-add_places, else-may_be_of}

pub loop-one-preserved : goal.loop-one-preserved
loop-one-preserved c =
    let width =
    width_turn c.args.entries.now c.loop-one.one-index c.one-item.result c.loop-one-test.true c.one-item.is in
    let places = places_of_turn c.args.entry.now c.args.name.now c.args.entries.now c.loop-one.one-index
    c.one-item.result c.loop-one-test.true c.one-item.is in
    elim c.if-may_be_of.branch [
      | then-may_be_of+in_ok-add_places w ↦ grind (arith, common_steps)
      | else-may_be_of w ↦ grind (arith, common_steps)
    ]
