use Rattle.std.proofs.Common.{◌≡◌, ◌+◌, ap, ◌∙◌, arith}
use Rattle.std.proofs.lemmas.Grind.{common_steps}
use Rattle.wh_meaning.specs.Scalar.{Column}
use Rattle.wh_scalar.specs.View.{scalar_of}
use Rattle.wh_core_bind.proofs.Turns.{places_turn}
use Rattle.wh_core_bind.proofs.shown.add_places.Goals as goal

pub loop-column-preserved : goal.loop-column-preserved
loop-column-preserved c =
    let turn = places_turn c.args.from c.args.columns.now c.loop-column._column-index c._column-item.result
    c.loop-column-test.true c._column-item.is in
    let same : scalar_of c.in_ok-column_scalar.field-0 ≡ Column (c.args.from + c.loop-column._column-index) =
    c.in_ok-column_scalar.ensures ∙ ap Column c.loop-column.invariant.next in
    record { places = grind (arith, common_steps); next = grind (arith, common_steps) }
