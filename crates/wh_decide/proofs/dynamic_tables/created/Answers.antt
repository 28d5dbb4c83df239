use Rattle.std.proofs.Common.{◌≡◌, ℕ, List, ◌∷◌, ◌++◌, map, ap, sym, subst, ◌∙◌}
use Rattle.std.specs.List.{AllByRecursion}
use Rattle.wh_reply.specs.Reply.{CreatedDynamicTable}
use Rattle.wh_reply.specs.View.{refreshed_view}
use Rattle.wh_record.specs.View.{change_of}
use Rattle.wh_state.specs.Commit.{Change, DynamicChange, CreatesDynamic}
use Rattle.wh_state.specs.Spelling.{IsUnderstood}
use Rattle.wh_state.specs.Written.{written}
use Rattle.wh_machine.specs.Outcome.{commits}
use Rattle.wh_machine.specs.Dynamics.{dynamic_made, query_of}
use Rattle.wh_catalog.specs.Catalog.{stored_of}
use Rattle.wh_decide.specs.Sight.{machine_in}
use Rattle.wh_decide.proofs.OutcomeLemmas.{decides_as}
use Rattle.wh_decide.proofs.NewDynamics.{made_written}
use Rattle.wh_decide.proofs.dynamic_tables.created.Goals as goal

pub returns-clause-comes : goal.returns-clause-comes
returns-clause-comes c = λ n acts is more.
    let sight = c.args.sight.now in
    let objects = (stored_of sight.catalog.now).objects in
    let all = dynamic_made n (query_of n) ++ acts in
    let items : map change_of c.in_ok-changes.changes.items ≡ written sight.stamp objects all =
    c.in_ok-changes.ensures ∙ (λ i. CreatesDynamic (is i) ∷ more i) ∙ made_written sight.stamp objects n acts in
    decides_as sight c.defined.result
    (ap (λ (name : List ℕ). commits (machine_in sight)
    (CreatedDynamicTable name (map refreshed_view c.args.refreshed.items)) all)
    (c.in_ok-name.ensures ∙ ap (λ (d : DynamicChange). d.name) is))
    (c.defined.ensures.comes all items)

pub returns-clause-ready : goal.returns-clause-ready
returns-clause-ready c = λ query more.
    c.defined.ensures.ready (subst (λ (cs : List Change). AllByRecursion IsUnderstood cs)
    (sym c.in_ok-changes.ensures) (query, more))
