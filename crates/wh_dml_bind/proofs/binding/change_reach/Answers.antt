use Rattle.std.proofs.Common.{ap, ◌∙◌}
use Rattle.wh_naming.specs.Changes.{BoundChange}
use Rattle.wh_dml_bind.proofs.binding.change_reach.Goals as goal

pub returns-clause-target : goal.returns-clause-target
returns-clause-target c = c.reach.ensures.target ∙ ap (λ (b : BoundChange). b.target) c.in_ok-checked.ensures

pub returns-clause-sources : goal.returns-clause-sources
returns-clause-sources c = c.reach.ensures.sources ∙ ap (λ (b : BoundChange). b.sources) c.in_ok-checked.ensures
