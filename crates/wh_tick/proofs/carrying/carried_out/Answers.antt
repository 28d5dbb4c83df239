use Rattle.std.proofs.Common.{List, sym, ap, map, ◌∙◌}
use Rattle.wh_naming.specs.Scope.{Named}
use Rattle.wh_naming.specs.Changes.{bound_change}
use Rattle.wh_naming.specs.View.{named_of}
use Rattle.wh_machine.specs.Sessions.{transaction_in}
use Rattle.wh_machine.specs.Statements.{changes_rows}
use Rattle.wh_machine.specs.Ticks.{body_bound}
use Rattle.wh_txn.specs.View.{sessions_of}
use Rattle.wh_decide.specs.Sight.{machine_in}
use Rattle.wh_decide.proofs.OutcomeLemmas.{comes_as}
use Rattle.wh_decide.proofs.TransactionLemmas.{is_closed}
use Rattle.wh_tick.proofs.CarryLemmas.{alone_in}
use Rattle.wh_tick.proofs.carrying.carried_out.Goals as goal

pub returns-clause-comes : goal.returns-clause-comes
returns-clause-comes g c = λ shown.
    let sight = c.args.sight.now in
    let m = machine_in sight in
    let closed = is_closed (transaction_in (sessions_of sight.sessions.now) sight.session) c.number.result
    c.number.ensures (sym c.is_some.ensures ∙ c.if-is_some.false) in
    comes_as sight c.change_named.result
    (ap (λ (names : List Named). changes_rows m sight.session (bound_change names c.args.body.now))
    (ap (map named_of) c.deref.ensures.value ∙ c.in_ok-names.ensures)
    ∙ alone_in m sight.session (body_bound m c.args.body.now) c.requires.ticking closed)
    (c.change_named.ensures.comes shown)
