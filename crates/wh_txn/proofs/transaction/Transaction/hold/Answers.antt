use Rattle.std.proofs.Common.{◌≡◌, None, false, refl, ap}
use Rattle.wh_state.specs.Edits.{Edits}
use Rattle.wh_version.specs.Edits.{edits_in}
use Rattle.wh_machine.specs.Transaction as machine
use Rattle.wh_txn.specs.declared.transaction.Staged.{Staged}
use Rattle.wh_txn.specs.View.{staged_of, transaction_of}
use Rattle.wh_txn.proofs.TableLemmas.{held_anew}
use Rattle.wh_txn.proofs.transaction.Transaction.hold.Goals as goal

pub returns-clause-ok : goal.returns-clause-ok
returns-clause-ok c =
    let first : Staged = record { edits = c.none.result; is_touched = false } in
    let starts : staged_of first ≡ machine.staged_in None =
    ap (λ (e : Edits). record { edits = e; is_touched = false }) c.none.ensures in
    held_anew (transaction_of c.args.self.now) c.args.self.now.tables.entries c.insert.new.self.entries c.args.id
    c.args.next_row (edits_in c.args.later) c.args.touches first c.amend.new.self refl c.requires starts
    c.in_ok-amend.ensures.ok c.in-Ok.ensures.updates.0
