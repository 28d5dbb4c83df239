use Rattle.std.proofs.Common.{◌≡◌, Some, Err, option_map, ap, sym, ◌∙◌}
use Rattle.std.specs.Prelude.{not}
use Rattle.wh_record.specs.View as records
use Rattle.wh_catalog.specs.Catalog.{stored_of}
use Rattle.wh_machine.specs.Transaction.{Transaction}
use Rattle.wh_machine.specs.Sessions.{transaction_in}
use Rattle.wh_txn.specs.View.{sessions_of}
use Rattle.wh_decide.specs.Sight.{machine_in}
use Rattle.wh_decide.proofs.TransactionLemmas.{is_closed, is_open, commit_closed, commit_past, commits_changes}
use Rattle.wh_decide.proofs.TransactionLemmas.{commits_nothing}
use Rattle.wh_decide.proofs.ReadyLemmas.{nothing_ready, end_settles}
use Rattle.wh_decide.proofs.transactions.commit.Given.{Over}
use Rattle.wh_decide.proofs.transactions.commit.Goals.{After-commit_record}
use Rattle.wh_decide.proofs.transactions.commit.Goals as goal

pub returns-then-is_none-clause-comes : goal.returns-then-is_none-clause-comes
returns-then-is_none-clause-comes g c = λ shown.
    let sight = c.args.sight.now in
    commit_closed (machine_in sight) sight.session
    (is_closed (transaction_in (sessions_of sight.sessions.now) sight.session) c.number.result c.number.ensures
    (c.is_none.ensures ∙ ap not c.if-is_none.true))

-- the session's open transaction
open_in : (g : Over) (c : After-commit_record g)
    → (t : Transaction) × (transaction_in (sessions_of c.args.sight.now.sessions.now) c.args.sight.now.session ≡ Some t)
open_in g c = is_open _ c.number.result c.number.ensures (c.is_none.ensures ∙ ap not c.if-is_none.false)

pub returns-in-Ok-Some-clause-comes : goal.returns-in-Ok-Some-clause-comes
returns-in-Ok-Some-clause-comes g c = λ shown.
    let sight = c.args.sight.now in
    let t = open_in g (goal.at.returns-in-Ok-Some-clause-comes g c).After-commit_record in
    commits_changes (stored_of sight.catalog.now) (machine_in sight) sight.session t.0 c.in-Ok-Some.commit t.1
    (c.in-Ok-Some.ensures.gives shown t.0 t.1).within
    (ap (option_map records.commit_of) (sym c.in-Ok-Some.field-0-is) ∙ (c.in-Ok-Some.ensures.gives shown t.0 t.1).made)

pub returns-in-Ok-None-clause-comes : goal.returns-in-Ok-None-clause-comes
returns-in-Ok-None-clause-comes g c = λ shown.
    let sight = c.args.sight.now in
    let t = open_in g (goal.at.returns-in-Ok-None-clause-comes g c).After-commit_record in
    commits_nothing (stored_of sight.catalog.now) (machine_in sight) sight.session t.0 t.1
    (c.in-Ok-None.ensures.gives shown t.0 t.1).within
    (ap (option_map records.commit_of) (sym c.in-Ok-None.field-0-is) ∙ (c.in-Ok-None.ensures.gives shown t.0 t.1).made)

pub returns-in-Err-Limit-clause-comes : goal.returns-in-Err-Limit-clause-comes
returns-in-Err-Limit-clause-comes g c = λ shown.
    let sight = c.args.sight.now in
    let t = open_in g (goal.at.returns-in-Err-Limit-clause-comes g c).After-commit_record in
    commit_past (machine_in sight) sight.session t.0 c.in-Err-Limit.field-0-0 c.in-Err-Limit.which t.1
    ((c.commit_record.ensures.gives shown t.0 t.1).limit c.in-Err-Limit.field-0-0 c.in-Err-Limit.which
    (c.in-Err-Limit.is ∙ ap Err c.in-Err-Limit.field-0-is))

pub returns-in-Ok-Some-clause-ready : goal.returns-in-Ok-Some-clause-ready
returns-in-Ok-Some-clause-ready g c =
    let sight = c.args.sight.now in
    end_settles (sessions_of sight.sessions.now) sight.stamp sight.session _ _
    c.in-Ok-Some.field-0-is c.in-Ok-Some.ensures.timed c.in-Ok-Some.ensures.read

pub returns-in-Ok-None-clause-ready : goal.returns-in-Ok-None-clause-ready
returns-in-Ok-None-clause-ready g c =
    let sight = c.args.sight.now in
    end_settles (sessions_of sight.sessions.now) sight.stamp sight.session _ _
    c.in-Ok-None.field-0-is c.in-Ok-None.ensures.timed c.in-Ok-None.ensures.read

pub returns-then-is_none-clause-ready : goal.returns-then-is_none-clause-ready
returns-then-is_none-clause-ready g c = nothing_ready c.args.sight.now

pub returns-in-Err-Limit-clause-ready : goal.returns-in-Err-Limit-clause-ready
returns-in-Err-Limit-clause-ready g c = nothing_ready c.args.sight.now
