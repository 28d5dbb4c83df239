use Rattle.std.proofs.Common.{◌∙◌}
use Rattle.std.specs.Prelude.{nat_eq}
use Rattle.wh_state.specs.Task.{Task}
use Rattle.wh_decide.proofs.CatalogLemmas.{count_meant}
use Rattle.wh_decide.proofs.graphs.graph_count.Goals as goal

pub returns : goal.returns
returns c = c.count_of_root.ensures ∙ count_meant c.args.catalog.now (λ (t : Task). nat_eq t.root c.args.root)
