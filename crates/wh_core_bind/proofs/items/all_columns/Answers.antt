use Rattle.std.proofs.Common.{arith}
use Rattle.std.proofs.lemmas.Grind.{common_steps}
use Rattle.wh_core_bind.proofs.Turns.{columns_turn}
use Rattle.wh_core_bind.proofs.items.all_columns.Goals as goal

pub loop-entry-preserved : goal.loop-entry-preserved
loop-entry-preserved c =
    let turn = columns_turn c.args.entries.now c.loop-entry.entry-index c.entry-item.result
    c.loop-entry-test.true c.entry-item.is in
    grind (arith, common_steps)
