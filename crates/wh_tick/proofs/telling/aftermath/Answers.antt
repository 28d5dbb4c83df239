use Rattle.std.proofs.Common.{List, map, ap, ◌∙◌}
use Rattle.wh_state.specs.Objects.{name_at}
use Rattle.wh_machine.specs.Ticks.{graph_end}
use Rattle.wh_task.specs.View as tasks
use Rattle.wh_task.specs.declared.run.TaskRun.{TaskRun}
use Rattle.wh_catalog.specs.Catalog.{state_of}
use Rattle.wh_decide.specs.Sight.{machine_in}
use Rattle.wh_tick.proofs.EndLemmas.{told_both}
use Rattle.wh_tick.proofs.telling.aftermath.Goals as goal

pub returns : goal.returns
returns c =
    let sight = c.args.sight.now in
    told_both _ _ _ _
    (c.in_ok-skipped.ensures ∙ ap (map (name_at (state_of sight.catalog.now).objects)) c.deref.ensures.value)
    (c.in_ok-graph.ensures ∙ ap (λ (run : List TaskRun). graph_end (machine_in sight) c.args.root
    (tasks.state_of c.args.state) (tasks.run_of run)) c.deref-2.ensures.value)
