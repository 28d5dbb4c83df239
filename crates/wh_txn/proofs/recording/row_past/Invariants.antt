use Rattle.std.proofs.Common.{◌≡◌, drop}
use Rattle.wh_value.specs.declared.limit.Limit.TheVariants as limits
use Rattle.wh_catalog.specs.Catalog.{state_of}
use Rattle.wh_machine.specs.Transaction.{first_past, row_past}
use Rattle.wh_txn.specs.Recording.{touched_at}
use Rattle.wh_txn.proofs.recording.row_past.Given as goal

abbrev pub invariant-loop-one : goal.invariant-loop-one
invariant-loop-one l =
    first_past (row_past (state_of l.catalog).objects) limits.RowNumber (touched_at (drop l.one-index l.touched))
    ≡ first_past (row_past (state_of l.catalog).objects) limits.RowNumber (touched_at l.touched)
