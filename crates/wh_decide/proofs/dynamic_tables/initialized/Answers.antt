use Rattle.std.proofs.Common.{◌≡◌, ap, sym, ◌∙◌, subst, arith}
use Rattle.wh_ddl_bind.specs.View.{new_dynamic_table_of}
use Rattle.wh_state.specs.Commit.{DynamicChange}
use Rattle.wh_state.specs.Dynamic.{IsQuerySpelled}
use Rattle.wh_machine.specs.Dynamics.{with_dynamic, new_id, asked_refresh, made_with, query_of}
use Rattle.wh_refresh.specs.Refreshing.{RefreshesAs, AreRead}
use Rattle.wh_catalog.specs.Catalog.{stored_of}
use Rattle.wh_decide.specs.Sight.{machine_in}
use Rattle.wh_decide.specs.Dynamics.{stored_with}
use Rattle.wh_decide.proofs.CatalogLemmas.{count_is}
use Rattle.wh_decide.proofs.OutcomeLemmas.{decides_as}
use Rattle.wh_decide.proofs.ReadyLemmas.{nothing_ready}
use Rattle.wh_decide.proofs.dynamic_tables.initialized.Given.{Over}
use Rattle.wh_decide.proofs.dynamic_tables.initialized.Goals.{In_ok-found}
use Rattle.wh_decide.proofs.dynamic_tables.initialized.Goals as goal

id_is : (g : Over) (c : In_ok-found g) → c.args.change.id ≡ new_id (machine_in c.args.sight.now).state
id_is g c =
    let count = ap (λ (d : DynamicChange). d.id) c.requires.change in
    omega (arith, count, count_is c.args.sight.now.catalog.now)

pub returns-in-Fails-clause-comes : goal.returns-in-Fails-clause-comes
returns-in-Fails-clause-comes g c = λ shown sound may.
    let sight = c.args.sight.now in
    let m = machine_in sight in
    let n = new_dynamic_table_of c.args.table.now in
    let state = with_dynamic m.state n (query_of n) in
    let stored = stored_with sight.stamp (stored_of sight.catalog.now).objects n in
    let fails = subst (λ f. RefreshesAs sight.stamp stored f (asked_refresh state c.args.change.id)) c.in-Fails.is
    (c.in_ok-found.ensures.refreshes shown sound n may c.in_ok-made.ensures.made) in
    ap (made_with m n (query_of n))
    (ap (asked_refresh state) (sym (id_is g (goal.at.returns-in-Fails-clause-comes g c).In_ok-found)) ∙ fails)

pub returns-in_ok-created-in-Brings-clause-comes : goal.returns-in_ok-created-in-Brings-clause-comes
returns-in_ok-created-in-Brings-clause-comes g c = λ shown sound may.
    let sight = c.args.sight.now in
    let m = machine_in sight in
    let n = new_dynamic_table_of c.args.table.now in
    let state = with_dynamic m.state n (query_of n) in
    let stored = stored_with sight.stamp (stored_of sight.catalog.now).objects n in
    let brings = subst (λ f. RefreshesAs sight.stamp stored f (asked_refresh state c.args.change.id)) c.in-Brings.is
    (c.in_ok-found.ensures.refreshes shown sound n may c.in_ok-made.ensures.made) in
    decides_as sight _
    (sym (ap (made_with m n (query_of n))
    (ap (asked_refresh state) (sym (id_is g (goal.at.returns-in_ok-created-in-Brings-clause-comes g c).In_ok-found))
    ∙ brings.is)))
    (c.in_ok-created-in-Brings.ensures.comes n brings.acts c.requires.change brings.written)

pub returns-in-Fails-clause-ready : goal.returns-in-Fails-clause-ready
returns-in-Fails-clause-ready g c = λ spelled. nothing_ready c.args.sight.now

pub returns-in_ok-created-in-Brings-clause-ready : goal.returns-in_ok-created-in-Brings-clause-ready
returns-in_ok-created-in-Brings-clause-ready g c = λ spelled.
    c.in_ok-created-in-Brings.ensures.ready
    (subst IsQuerySpelled (sym (ap (λ (d : DynamicChange). d.query) c.requires.change)) spelled)
    (subst AreRead c.in-Brings.is c.in_ok-found.ensures.read)
