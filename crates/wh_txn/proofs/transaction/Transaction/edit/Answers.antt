use Rattle.std.proofs.Common.{option_map, refl, sym, ap, ◌∙◌}
use Rattle.std.specs.FinMap.{FinMap, get}
use Rattle.std.specs.Ordering.{nat_cmp}
use Rattle.wh_version.specs.Edits.{edits_in}
use Rattle.wh_machine.specs.Transaction as machine
use Rattle.wh_txn.specs.View.{staged_of, tables_of, transaction_of}
use Rattle.wh_txn.proofs.TableLemmas.{held, with_same, held_again, some_there, on_err}
use Rattle.wh_txn.proofs.transaction.Transaction.edit.Goals as goal

pub returns-in_err-amend-in-Some-clause-err : goal.returns-in_err-amend-in-Some-clause-err
returns-in_err-amend-in-Some-clause-err c =
    let old = c.args.self.now.tables.entries in
    let new = c.amend.new.self in
    let written = c.get_mut.follows.holds new in
    on_err c.from_residual.result
    (ap (λ (m : FinMap nat_cmp machine.Staged). record (transaction_of c.args.self.now) { tables = m })
    (with_same old _ c.args.id c.in-Some.staged.now new (sym c.in-Some.ensures.value) written.0
    c.in_err-amend-in-Some.ensures.err))

pub hold-requires : goal.hold-requires
hold-requires c =
    let old = c.args.self.now.tables.entries in
    ap (λ m. get (tables_of m.entries) c.args.id) c.get_mut.follows.holds-at-none
    ∙ held old c.args.id
    ∙ ap (option_map staged_of) (sym c.in-None.ensures.value)

pub returns-in_ok-amend-in-Some-clause-ok : goal.returns-in_ok-amend-in-Some-clause-ok
returns-in_ok-amend-in-Some-clause-ok c =
    let old = c.args.self.now.tables.entries in
    let new = c.amend.new.self in
    let written = c.get_mut.follows.holds new in
    let there = sym c.in-Some.ensures.value in
    held_again (transaction_of c.args.self.now) old _ c.args.id c.args.next_row (edits_in c.args.later) c.args.touches
    c.in-Some.staged.now new refl there c.in_ok-amend-in-Some.ensures.ok (written.3 (some_there _ _ there)).0
