use Rattle.std.proofs.Common.{List, [], Option, ap, ◌∙◌}
use Rattle.std.specs.Option.{option_map_or}
use Rattle.wh_state.specs.Task.{Task}
use Rattle.wh_graph.specs.Graph.{is_under_way}
use Rattle.wh_task.specs.View.{run_of}
use Rattle.wh_task.specs.declared.run.TaskRun.{TaskRun}
use Rattle.wh_decide.proofs.CatalogLemmas.{task_there}
use Rattle.wh_decide.proofs.graphs.is_running.Goals as goal

pub returns-in-Some : goal.returns-in-Some
returns-in-Some c =
    c.is_under_way.ensures ∙ ap (λ (run : List TaskRun). is_under_way (run_of run)) c.deref.ensures.value
    ∙ ap (λ (found : Option Task). is_under_way (option_map_or (λ t. t.run) found []))
    (c.in-Some.ensures ∙ task_there c.args.catalog.now c.args.root)

pub returns-in-None : goal.returns-in-None
returns-in-None c = ap (λ (found : Option Task). is_under_way (option_map_or (λ t. t.run) found []))
    (c.in-None.ensures ∙ task_there c.args.catalog.now c.args.root)
