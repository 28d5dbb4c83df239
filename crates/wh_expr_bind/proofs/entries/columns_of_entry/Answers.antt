use Rattle.std.proofs.Common.{◌≡◌, true, false, bytes_eq, arith}
use Rattle.std.proofs.lemmas.Grind.{common_steps}
use Rattle.wh_expr_bind.proofs.ListLemmas.{width_turn, spans_met, spans_passed}
use Rattle.wh_expr_bind.proofs.entries.columns_of_entry.Goals as goal
use Rattle.wh_expr_bind.proofs.entries.columns_of_entry.Goals.{then-eq, else-eq}

pub loop-entry-preserved : goal.loop-entry-preserved
loop-entry-preserved c =
    let width = width_turn c.args.entries.now c.loop-entry.entry-index c.entry-item.result
    c.loop-entry-test.true c.entry-item.is in
    elim c.if-eq.branch [
      | then-eq w ↦
          let met : bytes_eq c.entry-item.result.name c.args.name.now ≡ true = cc in
          let spans = spans_met c.args.name.now c.args.entries.now c.loop-entry.entry-index c.entry-item.result
          c.loop-entry-test.true c.entry-item.is met in
          record {
            from = grind (arith, common_steps);
            found = grind (arith, common_steps);
            several = grind (arith, common_steps);
          }
      | else-eq w ↦
          let met : bytes_eq c.entry-item.result.name c.args.name.now ≡ false = cc in
          let spans = spans_passed c.args.name.now c.args.entries.now c.loop-entry.entry-index c.entry-item.result
          c.loop-entry-test.true c.entry-item.is met in
          record {
            from = grind (arith, common_steps);
            found = grind (arith, common_steps);
            several = grind (arith, common_steps);
          }
    ]
