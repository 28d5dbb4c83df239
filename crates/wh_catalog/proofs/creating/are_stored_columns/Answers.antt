use Rattle.std.proofs.Common.{◌∙◌, sym, arith}
use Rattle.wh_catalog.proofs.Columns.{stored_by_each}
use Rattle.wh_catalog.proofs.creating.are_stored_columns.Goals as goal

pub returns : goal.returns
returns c = c.all_stored.ensures ∙ sym (stored_by_each c.args.columns.now (omega arith) (omega arith))
