use Rattle.std.proofs.Common.{◌∙◌}
use Rattle.wh_decide.proofs.CatalogLemmas.{task_there}
use Rattle.wh_tick.proofs.lookups.task_at.Goals as goal

pub returns : goal.returns
returns c = c.task.ensures ∙ task_there c.args.catalog.now c.args.id
