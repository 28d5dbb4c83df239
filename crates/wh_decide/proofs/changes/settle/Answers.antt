use Rattle.std.proofs.Common.{ℕ, None, ap, sym, subst, ◌∙◌}
use Rattle.std.specs.Result.{IfOk}
use Rattle.wh_bound_change.specs.View as changes
use Rattle.wh_dml.specs.View.{effect_of}
use Rattle.wh_machine.specs.Changes.{reply_to}
use Rattle.wh_state.specs.Stored.{table_meant}
use Rattle.wh_machine.specs.Transaction as transactions
use Rattle.wh_machine.specs.Sessions.{transaction_in, with_transaction}
use Rattle.wh_machine.specs.Outcome.{Outcome, Does}
use Rattle.wh_catalog.specs.Catalog.{stored_of}
use Rattle.wh_table.specs.Table.{table_of}
use Rattle.wh_txn.specs.View.{sessions_of}
use Rattle.wh_decide.specs.Sight.{machine_in, Comes}
use Rattle.wh_decide.proofs.CatalogLemmas.{table_there}
use Rattle.wh_decide.proofs.ChangeLemmas.{is_staged, is_alone}
use Rattle.wh_decide.proofs.TransactionLemmas.{is_closed, is_open}
use Rattle.wh_decide.proofs.changes.settle.Goals as goal

pub returns-then-is_some-clause-comes : goal.returns-then-is_some-clause-comes
returns-then-is_some-clause-comes g c = λ shown.
    let sight = c.args.sight.now in
    let sessions = sessions_of sight.sessions.now in
    let id = c.args.bound.now.target in
    let change = changes.change_of c.args.bound.now.change in
    let e = effect_of c.args.effect in
    let table = table_of c.args.table.now in
    let t = is_open (transaction_in sessions sight.session) c.number.result c.number.ensures
    (sym c.is_some.ensures ∙ c.if-is_some.true) in
    subst (λ (o : Outcome). Comes sight c.staged.result o)
    (ap (λ (n : ℕ). Does (reply_to change e)
    (with_transaction sessions sight.session (transactions.staged t.0 id c.args.streams.items n e)) None)
    c.next_row.ensures.number
    ∙ sym (is_staged (machine_in sight) sight.session id c.args.streams.items change e t.0 (table_meant table) t.1
    (table_there sight.catalog.now id table c.requires.table)))
    (c.staged.ensures.decides (stored_of sight.catalog.now) sessions sight.stamp t.0 t.1)

pub returns-clause-comes : goal.returns-clause-comes
returns-clause-comes g c = λ shown.
    let sight = c.args.sight.now in
    subst (λ (o : Outcome). IfOk c.alone.result (λ d. Comes sight d o))
    (sym (is_alone (machine_in sight) sight.session c.args.bound.now.target c.args.streams.items
    (changes.change_of c.args.bound.now.change) (effect_of c.args.effect)
    (is_closed (transaction_in (sessions_of sight.sessions.now) sight.session) c.number.result c.number.ensures
    (sym c.is_some.ensures ∙ c.if-is_some.false))))
    (rw (sym c.deref.ensures.value) (c.alone.ensures.comes shown))

pub returns-then-is_some-clause-ready : goal.returns-then-is_some-clause-ready
returns-then-is_some-clause-ready g c =
    let sight = c.args.sight.now in
    let sessions = sessions_of sight.sessions.now in
    let t = is_open (transaction_in sessions sight.session) c.number.result c.number.ensures
    (sym c.is_some.ensures ∙ c.if-is_some.true) in
    c.staged.ensures.ready sessions sight.stamp t.0 t.1
