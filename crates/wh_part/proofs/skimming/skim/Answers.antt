use Rattle.wh_part.proofs.SketchLaws.{count_some}
use Rattle.wh_part.proofs.skimming.skim.Goals as goal

pub overflow_sub-count : goal.overflow_sub-count
overflow_sub-count c =
    count_some c.in_ok-number.rest.now (c.in_ok-count.count, c.in_ok-count.rest.now) c.in_ok-count.ensures
