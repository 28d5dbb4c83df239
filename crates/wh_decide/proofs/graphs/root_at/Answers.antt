use Rattle.std.proofs.Common.{Option, ap, ◌∙◌}
use Rattle.std.specs.Option.{option_map_or}
use Rattle.wh_state.specs.Task.{Task}
use Rattle.wh_decide.proofs.CatalogLemmas.{task_there}
use Rattle.wh_decide.proofs.graphs.root_at.Goals as goal

pub returns-in-Some : goal.returns-in-Some
returns-in-Some c = ap (λ (found : Option Task). option_map_or (λ t. t.root) found c.args.id)
    (c.in-Some.ensures ∙ task_there c.args.catalog.now c.args.id)

pub returns-in-None : goal.returns-in-None
returns-in-None c = ap (λ (found : Option Task). option_map_or (λ t. t.root) found c.args.id)
    (c.in-None.ensures ∙ task_there c.args.catalog.now c.args.id)
