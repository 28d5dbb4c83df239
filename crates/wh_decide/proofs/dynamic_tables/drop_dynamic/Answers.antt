use Rattle.std.proofs.Common.{[], ◌∷◌, Some, None, refl}
use Rattle.wh_reply.specs.Reply.{DroppedDynamicTable}
use Rattle.wh_state.specs.Act.{DropsObject}
use Rattle.wh_machine.specs.Dynamics.{drop_dynamic}
use Rattle.wh_decide.specs.Sight.{machine_in}
use Rattle.wh_decide.proofs.DefineLemmas.{defines_as}
use Rattle.wh_decide.proofs.OutcomeLemmas.{comes_as}
use Rattle.wh_decide.proofs.dynamic_tables.drop_dynamic.Goals as goal

pub returns : goal.returns
unfolding drop_dynamic
returns c =
    let sight = c.args.sight.now in
    comes_as sight c.drop_object.result
    (defines_as {wrong = None} {found = None} (machine_in sight) sight.session (Some c.args.id) DroppedDynamicTable
    (DropsObject c.args.id ∷ []) refl c.in_ok-name_of.ensures)
    c.drop_object.ensures
