use Rattle.std.proofs.Common.{◌≡◌, List, map, Some, Err, ap, sym, subst, ◌∙◌}
use Rattle.std.specs.Prelude.{unwrap_or}
use Rattle.wh_ast.specs.declared.statement.Statement.{Statement}
use Rattle.wh_ddl_naming.specs.Meant.{Meant, first_failing}
use Rattle.wh_ddl_naming.specs.Objects.{Names}
use Rattle.wh_ddl_naming.specs.Statements.{Bound, bound}
use Rattle.wh_bind.specs.declared.fault.BindFault.{BindFault}
use Rattle.wh_ddl_bind.specs.Binds.{Binds}
use Rattle.wh_naming.specs.View.{failing_of, named_of}
use Rattle.wh_naming.specs.declared.failing.Failing.{Failing}
use Rattle.wh_naming.specs.declared.object.Named.{Named}
use Rattle.wh_ddl_bind.specs.View.{root_in}
use Rattle.wh_ddl_bind.specs.declared.names.TaskRoot.{TaskRoot}
use Rattle.wh_reply.specs.View.{refusal_view}
use Rattle.wh_machine.specs.Names.{refusal_of, names_from}
use Rattle.wh_catalog.specs.Catalog.{state_of}
use Rattle.wh_machine.specs.Outcome.{Refuses}
use Rattle.wh_decide.specs.Definitions.{earlier_refusal, IsBoundOver}
use Rattle.wh_decide.specs.Names.{over}
use Rattle.wh_decide.specs.Sight.{machine_in}
use Rattle.wh_decide.proofs.OutcomeLemmas.{comes_as, viewed_or}
use Rattle.wh_decide.proofs.CommandLemmas.{command_of_none, command_bound, command_failing}
use Rattle.wh_decide.proofs.ReadyLemmas.{nothing_ready}
use Rattle.wh_decide.proofs.MadeDynamics.{bound_over}
use Rattle.wh_decide.proofs.SpelledLemmas.{meant_read}
use Rattle.wh_decide.proofs.AskLemmas.{bound_unasked}
use Rattle.wh_decide.specs.Asked.{AsksAsBound}
use Rattle.wh_machine.specs.Reading.{start_in}
use Rattle.std.specs.Result.{IfOk}
use Rattle.wh_reply.specs.Reply.{NoSuchSession}
use Rattle.wh_decide.specs.Decision.{answer_of}
use Rattle.wh_grammar.specs.Spelled.{Asked}
use Rattle.wh_decide.specs.RefreshAsked.{refresh_bound, refresh_requested, AsksAsReplied}
use Rattle.wh_decide.proofs.RefreshAskLaws.{refused_asks}
use Rattle.wh_decide.proofs.deciding.decide_tree.Goals as goal

-- the same objects and roots behind references
named_as : (tree : Statement) {os objects : List Named} {rs roots : List TaskRoot} {meant : Meant Bound} → os ≡ objects
    → rs ≡ roots → bound (over (map named_of objects) (map root_in roots)) tree ≡ meant
    → bound (over (map named_of os) (map root_in rs)) tree ≡ meant
named_as tree at told is = (λ i. bound (over (map named_of (at i)) (map root_in (told i))) tree) ∙ is

pub returns-then-not-is_session-clause-comes : goal.returns-then-not-is_session-clause-comes
returns-then-not-is_session-clause-comes g c = λ shown sound.
    let sight = c.args.sight.now in
    command_of_none (machine_in sight) sight.session c.args.statement.now
    (sym c.is_session.ensures ∙ c.if-not-is_session.true)

pub returns-in-Ok-clause-comes : goal.returns-in-Ok-clause-comes
returns-in-Ok-clause-comes g c = λ shown sound.
    let sight = c.args.sight.now in
    let objects = (state_of sight.catalog.now).objects in
    let tree = c.args.statement.now in
    let same = named_as tree c.deref.ensures.value c.deref-2.ensures.value
    (c.in_ok-objects.ensures (map root_in c.in_ok-roots.roots.items)
    ∙ c.in_ok-roots.ensures (names_from 1 (state_of sight.catalog.now).objects)) in
    comes_as sight c.decide_bound.result
    (command_bound (machine_in sight) sight.session tree _ c.in-Ok.bound
    (sym c.is_session.ensures ∙ c.if-not-is_session.false) same c.in-Ok.ensures)
    (c.decide_bound.ensures.comes shown sound (subst (IsBoundOver objects)
    (sym (c.in-Ok.ensures.bound ∙ ap (λ (m : Meant Bound). m.value) same)) (bound_over objects tree)))

pub returns-in-Err-Failing-clause-comes : goal.returns-in-Err-Failing-clause-comes
returns-in-Err-Failing-clause-comes g c = λ shown sound.
    let sight = c.args.sight.now in
    let m = machine_in sight in
    let tree = c.args.statement.now in
    let failing = c.in-Err-Failing.failing in
    let same = named_as tree c.deref.ensures.value c.deref-2.ensures.value
    (c.in_ok-objects.ensures (map root_in c.in_ok-roots.roots.items)
    ∙ c.in_ok-roots.ensures (names_from 1 (state_of sight.catalog.now).objects)) in
    let names : Names = over (map named_of c.deref.result.now) (map root_in c.deref-2.result.now) in
    let fails : first_failing (bound names tree) ≡ Some (failing_of failing) =
    subst (λ (fault : BindFault). Binds (Err fault) (bound names tree)) c.in-Err-Failing.field-0-is
    c.in-Err-Failing.ensures in
    let why : refusal_view c.unwrap_or-why.result
    ≡ unwrap_or (earlier_refusal m sight.session tree) (refusal_of (failing_of failing)) =
    ap refusal_view c.unwrap_or-why.ensures ∙ viewed_or refusal_view c.earlier_refusal.result c.refusal.result
    ∙ (λ i. unwrap_or (c.earlier_refusal.ensures i)
    ((c.refusal.ensures ∙ ap (λ (f : Failing). refusal_of (failing_of f)) c.in-Err-Failing.failing-is) i)) in
    command_failing m sight.session tree names (failing_of failing)
    (sym c.is_session.ensures ∙ c.if-not-is_session.false) same fails
    ∙ ap Refuses (sym why)

pub returns-then-not-is_session-clause-ready : goal.returns-then-not-is_session-clause-ready
returns-then-not-is_session-clause-ready g c = λ text is. nothing_ready c.args.sight.now

pub returns-in-Ok-clause-ready : goal.returns-in-Ok-clause-ready
returns-in-Ok-clause-ready g c = λ text is.
    let sight = c.args.sight.now in
    let tree = c.args.statement.now in
    let same = named_as tree c.deref.ensures.value c.deref-2.ensures.value
    (c.in_ok-objects.ensures (map root_in c.in_ok-roots.roots.items)
    ∙ c.in_ok-roots.ensures (names_from 1 (state_of sight.catalog.now).objects)) in
    c.decide_bound.ensures.ready (meant_read sight text tree _ c.in-Ok.bound is
    (command_bound (machine_in sight) sight.session tree _ c.in-Ok.bound
    (sym c.is_session.ensures ∙ c.if-not-is_session.false) same c.in-Ok.ensures) c.in-Ok.ensures)

pub returns-in-Err-Failing-clause-ready : goal.returns-in-Err-Failing-clause-ready
returns-in-Err-Failing-clause-ready g c = λ text is. nothing_ready c.args.sight.now

-- ---- what is asked for

pub returns-then-not-is_session-clause-asks : goal.returns-then-not-is_session-clause-asks
returns-then-not-is_session-clause-asks g c = bound_unasked c.args.sight.now.catalog.now _ _ _

pub returns-in_err-objects-clause-asks : goal.returns-in_err-objects-clause-asks
returns-in_err-objects-clause-asks g c = bound_unasked c.args.sight.now.catalog.now _ _ _

pub returns-in_err-roots-clause-asks : goal.returns-in_err-roots-clause-asks
returns-in_err-roots-clause-asks g c = bound_unasked c.args.sight.now.catalog.now _ _ _

pub returns-in-Ok-clause-asks : goal.returns-in-Ok-clause-asks
returns-in-Ok-clause-asks g c =
    let sight = c.args.sight.now in
    let tree = c.args.statement.now in
    let same = named_as tree c.deref.ensures.value c.deref-2.ensures.value
    (c.in_ok-objects.ensures (map root_in c.in_ok-roots.roots.items)
    ∙ c.in_ok-roots.ensures (names_from 1 (state_of sight.catalog.now).objects)) in
    subst (λ (b : Bound). AsksAsBound sight.catalog.now (start_in (machine_in sight) sight.session) b
    c.args.fetch.now.asked.items c.decide_bound.new.fetch.asked.items)
    (c.in-Ok.ensures.bound ∙ ap (λ (m : Meant Bound). m.value) same) c.decide_bound.ensures.asks

pub returns-in-Err-Failing-clause-asks : goal.returns-in-Err-Failing-clause-asks
returns-in-Err-Failing-clause-asks g c = bound_unasked c.args.sight.now.catalog.now _ _ _

pub returns-then-not-is_session-clause-fetches : goal.returns-then-not-is_session-clause-fetches
returns-then-not-is_session-clause-fetches g c =
    refused_asks c.args.sight.now.catalog.now c.args.fetch.now.asked.items c.args.fetch.now.asked.items
    (refresh_requested (machine_in c.args.sight.now) (Asked c.args.statement.now))
    (NoSuchSession c.args.sight.now.session)

pub returns-in-Ok-clause-fetches : goal.returns-in-Ok-clause-fetches
returns-in-Ok-clause-fetches g c =
    let sight = c.args.sight.now in
    let tree = c.args.statement.now in
    let same = named_as tree c.deref.ensures.value c.deref-2.ensures.value
    (c.in_ok-objects.ensures (map root_in c.in_ok-roots.roots.items)
    ∙ c.in_ok-roots.ensures (names_from 1 (state_of sight.catalog.now).objects)) in
    subst (λ (b : Bound). IfOk c.decide_bound.result (λ d. AsksAsReplied sight.catalog.now (refresh_bound sight.stamp b)
    c.args.fetch.now.asked.items c.decide_bound.new.fetch.asked.items (answer_of d)))
    (c.in-Ok.ensures.bound ∙ ap (λ (m : Meant Bound). m.value) same) c.decide_bound.ensures.fetches

pub returns-in-Err-Failing-clause-fetches : goal.returns-in-Err-Failing-clause-fetches
returns-in-Err-Failing-clause-fetches g c =
    refused_asks c.args.sight.now.catalog.now c.args.fetch.now.asked.items c.args.fetch.now.asked.items
    (refresh_requested (machine_in c.args.sight.now) (Asked c.args.statement.now))
    (refusal_view c.unwrap_or-why.result)
