use Rattle.std.proofs.Common.{◌∙◌, ap, sym, option_map}
use Rattle.wh_txn.specs.View.{staged_of}
use Rattle.wh_txn.proofs.TableLemmas.{held, pointed}
use Rattle.wh_txn.proofs.transaction.Transaction.staged.Goals as goal

pub returns : goal.returns
returns c =
    pointed c.get.result
    ∙ ap (option_map staged_of) c.get.ensures.value
    ∙ sym (held c.args.self.now.tables.entries c.args.id)
