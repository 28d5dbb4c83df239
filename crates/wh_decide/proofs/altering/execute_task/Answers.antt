use Rattle.std.proofs.Common.{None, sym, ◌∙◌}
use Rattle.wh_reply.specs.Reply.{Started}
use Rattle.wh_machine.specs.Tasks.{root_running, start_acts, execute_task}
use Rattle.wh_catalog.specs.Catalog.{state_of}
use Rattle.wh_decide.specs.Sight.{machine_in}
use Rattle.wh_decide.proofs.OutcomeLemmas.{decides_as}
use Rattle.wh_decide.proofs.DefineLemmas.{defines_as}
use Rattle.wh_decide.proofs.NamingLemmas.{alone}
use Rattle.wh_decide.proofs.AlterLemmas.{start_written_as}
use Rattle.wh_decide.proofs.altering.execute_task.Goals as goal

pub returns : goal.returns
unfolding execute_task
returns c =
    let sight = c.args.sight.now in
    let root = c.args.root in
    let objects = (state_of sight.catalog.now).objects in
    decides_as sight c.tested.result
    (defines_as (machine_in sight) sight.session None Started (start_acts objects root)
    (c.in_ok-wrong.ensures ∙ sym (alone (root_running objects root))) c.in_ok-name_of.ensures)
    (c.tested.ensures (start_acts objects root)
    (c.in_ok-changes.ensures ∙ start_written_as sight.catalog.now sight.stamp root))
