use Rattle.std.proofs.Common.{List, subst}
use Rattle.std.proofs.lemmas.List.{take_all}
use Rattle.wh_version.specs.declared.arrivals.Arrivals.{Arrivals}
use Rattle.wh_change.specs.Appended.{arrivals_at, came_in}
use Rattle.wh_change.specs.Seen.{IsLeast}
use Rattle.wh_change.proofs.meeting.lowest_of.Goals as goal

pub returns : goal.returns
returns c =
    subst (λ (later : List Arrivals). IsLeast c.loop-arrivals.lowest (came_in (arrivals_at later)))
    (take_all c.loop-arrivals.arrivals-index c.args.later.now c.loop-arrivals-test.false) c.loop-arrivals.invariant
