use Rattle.std.proofs.Common.{option_map, sym, ap, ◌∙◌}
use Rattle.wh_state.specs.Stored.{table_meant}
use Rattle.wh_machine.specs.Transaction.{next_row_of}
use Rattle.wh_txn.proofs.SeenLemmas.{catalog_table}
use Rattle.wh_txn.proofs.recording.next_row.Goals as goal

pub returns-in-Some-clause-number : goal.returns-in-Some-clause-number
returns-in-Some-clause-number c =
    c.next_row.ensures.number
    ∙ ap (λ found. next_row_of (option_map table_meant found)) c.in-Some.ensures.table
    ∙ ap next_row_of (sym (catalog_table c.args.catalog.now c.args.id))

pub returns-in-None-clause-number : goal.returns-in-None-clause-number
returns-in-None-clause-number c =
    ap (λ found. next_row_of (option_map table_meant found)) c.in-None.ensures.table
    ∙ ap next_row_of (sym (catalog_table c.args.catalog.now c.args.id))
