use Rattle.std.proofs.Common.{◌≡◌, ◌<◌, ◌≤◌, Some, None, length, ap, sym, subst, ◌∙◌, arith, rules}
use Rattle.wh_machine.specs.Step.{commanded}
use Rattle.wh_stmt_parse.specs.Read.{read_statement}
use Rattle.wh_decide.specs.Sight.{machine_in}
use Rattle.wh_decide.proofs.OutcomeLemmas.{comes_as}
use Rattle.wh_decide.proofs.ReadyLemmas.{nothing_ready}
use Rattle.wh_decide.proofs.RequestLemmas.{long_request, short_request}
use Rattle.wh_decide.proofs.CommandLemmas.{command_long, command_unreadable}
use Rattle.wh_decide.proofs.SpelledLemmas.{text_spells}
use Rattle.wh_decide.proofs.AskLemmas.{request_unasked}
use Rattle.wh_decide.specs.Asked.{AsksAsRequested}
use Rattle.wh_grammar.specs.Spelled.{Request}
use Rattle.wh_stmt_parse.specs.Request.{request_of}
use Rattle.std.specs.Result.{IfOk}
use Rattle.wh_value.specs.declared.limit.Limit.TheVariants as limits
use Rattle.wh_reply.specs.Reply.{OverLimit, SyntaxError}
use Rattle.wh_decide.specs.Decision.{answer_of}
use Rattle.wh_decide.specs.RefreshAsked.{refresh_requested, AsksAsReplied}
use Rattle.wh_decide.proofs.RefreshAskLaws.{refused_asks}
use Rattle.wh_decide.proofs.deciding.decide_command.Goals as goal

pub returns-then-bound-text-clause-comes : goal.returns-then-bound-text-clause-comes
returns-then-bound-text-clause-comes g c = λ shown sound.
    let sight = c.args.sight.now in
    let m = machine_in sight in
    let long : 65536 < length c.args.text.now = omega (arith, c.bound.ensures) in
    ap (commanded m sight.session) (long_request c.args.text.now long) ∙ command_long m sight.session

pub returns-in-Ok-clause-comes : goal.returns-in-Ok-clause-comes
returns-in-Ok-clause-comes g c = λ shown sound.
    let sight = c.args.sight.now in
    let m = machine_in sight in
    let within : length c.args.text.now ≤ 65536 = omega (arith, c.bound.ensures) in
    comes_as sight c.decide_tree-decision.result
    (ap (commanded m sight.session)
    (sym (short_request c.args.text.now (Some c.in-Ok.statement) within c.in-Ok.ensures.reads)))
    (c.decide_tree-decision.ensures.comes shown sound)

pub returns-in-Err-SyntaxError-clause-comes : goal.returns-in-Err-SyntaxError-clause-comes
returns-in-Err-SyntaxError-clause-comes g c = λ shown sound.
    let sight = c.args.sight.now in
    let m = machine_in sight in
    let within : length c.args.text.now ≤ 65536 = omega (arith, c.bound.ensures) in
    let none : read_statement c.args.text.now ≡ None = search rules in
    ap (commanded m sight.session) (short_request c.args.text.now None within none)
    ∙ command_unreadable m sight.session

pub returns-then-bound-text-clause-ready : goal.returns-then-bound-text-clause-ready
returns-then-bound-text-clause-ready g c = nothing_ready c.args.sight.now

pub returns-in-Err-SyntaxError-clause-ready : goal.returns-in-Err-SyntaxError-clause-ready
returns-in-Err-SyntaxError-clause-ready g c = nothing_ready c.args.sight.now

pub returns-in-Ok-clause-ready : goal.returns-in-Ok-clause-ready
returns-in-Ok-clause-ready g c =
    let within : length c.args.text.now ≤ 65536 = omega (arith, c.bound.ensures) in
    c.decide_tree-decision.ensures.ready c.args.text.now (text_spells c.args.text.now c.in-Ok.statement
    (short_request c.args.text.now (Some c.in-Ok.statement) within c.in-Ok.ensures.reads))

-- ---- what is asked for

pub returns-then-bound-text-clause-asks : goal.returns-then-bound-text-clause-asks
returns-then-bound-text-clause-asks g c =
    request_unasked c.args.sight.now.catalog.now (machine_in c.args.sight.now) c.args.sight.now.session
    (request_of c.args.text.now) _

pub returns-in-Ok-clause-asks : goal.returns-in-Ok-clause-asks
returns-in-Ok-clause-asks g c =
    let sight = c.args.sight.now in
    let within : length c.args.text.now ≤ 65536 = omega (arith, c.bound.ensures) in
    subst (λ (r : Request). AsksAsRequested sight.catalog.now (machine_in sight) sight.session r
    c.args.fetch.now.asked.items c.decide_tree-decision.new.fetch.asked.items)
    (sym (short_request c.args.text.now (Some c.in-Ok.statement) within c.in-Ok.ensures.reads))
    c.decide_tree-decision.ensures.asks

pub returns-in-Err-SyntaxError-clause-asks : goal.returns-in-Err-SyntaxError-clause-asks
returns-in-Err-SyntaxError-clause-asks g c =
    request_unasked c.args.sight.now.catalog.now (machine_in c.args.sight.now) c.args.sight.now.session
    (request_of c.args.text.now) _

pub returns-then-bound-text-clause-fetches : goal.returns-then-bound-text-clause-fetches
returns-then-bound-text-clause-fetches g c =
    refused_asks c.args.sight.now.catalog.now c.args.fetch.now.asked.items c.args.fetch.now.asked.items
    (refresh_requested (machine_in c.args.sight.now) (request_of c.args.text.now)) (OverLimit limits.Statement)

pub returns-in-Ok-clause-fetches : goal.returns-in-Ok-clause-fetches
returns-in-Ok-clause-fetches g c =
    let sight = c.args.sight.now in
    let within : length c.args.text.now ≤ 65536 = omega (arith, c.bound.ensures) in
    subst (λ (r : Request). IfOk c.decide_tree-decision.result (λ d. AsksAsReplied sight.catalog.now
    (refresh_requested (machine_in sight) r) c.args.fetch.now.asked.items c.decide_tree-decision.new.fetch.asked.items
    (answer_of d)))
    (sym (short_request c.args.text.now (Some c.in-Ok.statement) within c.in-Ok.ensures.reads))
    c.decide_tree-decision.ensures.fetches

pub returns-in-Err-SyntaxError-clause-fetches : goal.returns-in-Err-SyntaxError-clause-fetches
returns-in-Err-SyntaxError-clause-fetches g c =
    refused_asks c.args.sight.now.catalog.now c.args.fetch.now.asked.items c.args.fetch.now.asked.items
    (refresh_requested (machine_in c.args.sight.now) (request_of c.args.text.now)) SyntaxError
