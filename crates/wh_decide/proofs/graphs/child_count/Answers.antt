use Rattle.std.proofs.Common.{◌∙◌}
use Rattle.wh_state.specs.Edits.{is_among}
use Rattle.wh_state.specs.Task.{Task}
use Rattle.wh_decide.proofs.CatalogLemmas.{count_meant}
use Rattle.wh_decide.proofs.graphs.child_count.Goals as goal

pub returns : goal.returns
returns c = c.child_count.ensures ∙ count_meant c.args.catalog.now (λ (t : Task). is_among c.args.parent t.after)
