use Rattle.wh_delta.proofs.Chosen.{chosen_begun}
use Rattle.wh_delta.proofs.group.chosen.Goals as goal

pub loop-row-init : goal.loop-row-init
loop-row-init c = chosen_begun _ _ c.new-kept.ensures.items
