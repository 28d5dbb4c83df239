use Rattle.wh_algebra.specs.Plan.{plan_of}
use Rattle.wh_exec.proofs.Sizes.{size}
use Rattle.wh_exec.proofs.widths.+width_of.Given as goal

abbrev pub decreases-width_of : goal.decreases-width_of
decreases-width_of l = size (plan_of l.plan.now)
