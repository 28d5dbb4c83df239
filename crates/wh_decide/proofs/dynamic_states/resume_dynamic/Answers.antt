use Rattle.std.proofs.Common.{None, refl, ◌∙◌}
use Rattle.wh_reply.specs.Reply.{Resumed}
use Rattle.wh_state.specs.Objects.{dynamic_at}
use Rattle.wh_machine.specs.Dynamics.{puts_dynamic, resume_dynamic}
use Rattle.wh_catalog.specs.Catalog.{state_of}
use Rattle.wh_decide.specs.Sight.{machine_in}
use Rattle.wh_decide.specs.Dynamics.{resumed_state}
use Rattle.wh_decide.proofs.OutcomeLemmas.{decides_as}
use Rattle.wh_decide.proofs.DefineLemmas.{defines_as}
use Rattle.wh_decide.proofs.DynamicLemmas.{puts_as}
use Rattle.wh_decide.proofs.dynamic_states.resume_dynamic.Goals as goal

pub returns : goal.returns
unfolding resume_dynamic
returns c =
    let sight = c.args.sight.now in
    let id = c.args.id in
    let acts = puts_dynamic id resumed_state (dynamic_at (state_of sight.catalog.now).objects id) in
    decides_as sight c.tested.result
    (defines_as {wrong = None} {found = None} (machine_in sight) sight.session None Resumed acts refl
    c.in_ok-name_of.ensures)
    (c.tested.ensures acts
    (c.in_ok-changes.ensures ∙ puts_as sight.catalog.now sight.stamp id resumed_state))
