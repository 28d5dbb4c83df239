use Rattle.std.proofs.Common.{◌≡◌, Some, None, option_map, ap, sym, ◌∙◌, arith}
use Rattle.wh_ddl_bind.specs.View.{new_dynamic_table_of}
use Rattle.wh_reply.specs.Reply.{DdlInTransaction, Locked}
use Rattle.wh_reply.specs.View.{refusal_view}
use Rattle.std.proofs.lemmas.List.{length-map}
use Rattle.wh_value.specs.View.{column_of}
use Rattle.wh_machine.specs.Sessions.{number_in}
use Rattle.wh_machine.specs.Definitions.{holder_of, defines}
use Rattle.wh_machine.specs.Dynamics.{dynamic_refusal, initialized, query_of, create_dynamic}
use Rattle.wh_catalog.specs.Catalog.{state_of}
use Rattle.wh_txn.specs.View.{sessions_of}
use Rattle.wh_decide.specs.Sight.{machine_in}
use Rattle.wh_decide.proofs.CatalogLemmas.{count_is}
use Rattle.wh_decide.proofs.OutcomeLemmas.{comes_as}
use Rattle.wh_decide.proofs.ReadyLemmas.{nothing_ready}
use Rattle.wh_decide.proofs.DefineLemmas.{none_past}
use Rattle.wh_decide.proofs.NewDynamics.{IsWithin, defines_dynamic, within_limits}
use Rattle.wh_decide.proofs.MadeDynamics.{may_make}
use Rattle.wh_decide.proofs.dynamic_tables.create_dynamic.Given.{Over}
use Rattle.wh_decide.proofs.dynamic_tables.create_dynamic.Goals.{In_default}
use Rattle.wh_decide.proofs.dynamic_tables.create_dynamic.Goals as goal

pub returns-in-Some-clause-comes : goal.returns-in-Some-clause-comes
returns-in-Some-clause-comes g c = λ shown sound over.
    let sight = c.args.sight.now in
    defines_dynamic (state_of sight.catalog.now) sight.stamp (sessions_of sight.sessions.now) sight.session
    (new_dynamic_table_of c.args.table.now) _ (Some (refusal_view c.in-Some.why)) c.in_ok-wrong.ensures
    (sym (ap (option_map refusal_view) c.in-Some.is) ∙ c.definition_refusal.ensures)

-- what a dynamic table that isn't refused keeps
within : (g : Over) (c : In_default g)
    → IsWithin (state_of c.args.sight.now.catalog.now) (new_dynamic_table_of c.args.table.now)
within g c =
    let sight = c.args.sight.now in
    let n = new_dynamic_table_of c.args.table.now in
    let passed : dynamic_refusal (state_of sight.catalog.now) None n (query_of n) ≡ None =
    sym c.in_ok-wrong.ensures ∙ none_past
    (option_map DdlInTransaction (number_in (sessions_of sight.sessions.now) sight.session))
    (option_map refusal_view c.in_ok-wrong.wrong)
    (option_map Locked (holder_of (sessions_of sight.sessions.now) None))
    (sym c.definition_refusal.ensures ∙ ap (option_map refusal_view) c.in_default.is) in
    within_limits (state_of sight.catalog.now) n passed

-- by its tests
defined_as : (g : Over) (c : In_default g) → defines (machine_in c.args.sight.now) c.args.sight.now.session None
    (create_dynamic (machine_in c.args.sight.now) None (new_dynamic_table_of c.args.table.now))
    ≡ initialized (machine_in c.args.sight.now) (new_dynamic_table_of c.args.table.now)
    (query_of (new_dynamic_table_of c.args.table.now)) c.args.table.now.initialize
defined_as g c =
    let sight = c.args.sight.now in
    defines_dynamic (state_of sight.catalog.now) sight.stamp (sessions_of sight.sessions.now) sight.session
    (new_dynamic_table_of c.args.table.now) _ None c.in_ok-wrong.ensures
    (sym (ap (option_map refusal_view) c.in_default.is) ∙ c.definition_refusal.ensures)

pub new_dynamic-requires-clause-fits : goal.new_dynamic-requires-clause-fits
new_dynamic-requires-clause-fits g c κs bounds =
    let kept = within g (goal.at.new_dynamic-requires-clause-fits g c).In_default in record {
      lag = kept.lag;
      columns = omega (arith, kept.columns, length-map c.args.table.now.columns.items column_of);
    }

pub new_dynamic-requires-clause-room : goal.new_dynamic-requires-clause-room
new_dynamic-requires-clause-room g c κs bounds =
    let kept = within g (goal.at.new_dynamic-requires-clause-room g c).In_default in
    omega (arith, kept.room, count_is c.args.sight.now.catalog.now)

pub returns-clause-comes : goal.returns-clause-comes
returns-clause-comes g c = λ shown sound over.
    comes_as c.args.sight.now c.new_dynamic.result (sym (defined_as g (goal.at.returns-clause-comes g c).In_default))
    (c.new_dynamic.ensures.comes shown sound (may_make (state_of c.args.sight.now.catalog.now)
    (new_dynamic_table_of c.args.table.now) over (within g (goal.at.returns-clause-comes g c).In_default)))

pub returns-in-Some-clause-ready : goal.returns-in-Some-clause-ready
returns-in-Some-clause-ready g c = λ spelled. nothing_ready c.args.sight.now
