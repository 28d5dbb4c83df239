use Rattle.std.proofs.Common.{[], ◌∷◌, Some, None, refl}
use Rattle.wh_reply.specs.Reply.{DroppedTable}
use Rattle.wh_state.specs.Act.{DropsObject}
use Rattle.wh_machine.specs.Tables.{drop_table}
use Rattle.wh_decide.specs.Sight.{machine_in}
use Rattle.wh_decide.proofs.DefineLemmas.{defines_as}
use Rattle.wh_decide.proofs.OutcomeLemmas.{comes_as}
use Rattle.wh_decide.proofs.tables.drop_table.Goals as goal

pub returns : goal.returns
unfolding drop_table
returns c =
    let sight = c.args.sight.now in
    comes_as sight c.drop_object.result
    (defines_as {wrong = None} {found = None} (machine_in sight) sight.session (Some c.args.id) DroppedTable
    (DropsObject c.args.id ∷ []) refl c.in_ok-name_of.ensures)
    c.drop_object.ensures
