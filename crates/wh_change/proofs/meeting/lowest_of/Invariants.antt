use Rattle.std.proofs.Common.{take}
use Rattle.wh_change.specs.Appended.{arrivals_at, came_in}
use Rattle.wh_change.specs.Seen.{IsLeast}
use Rattle.wh_change.proofs.meeting.lowest_of.Given as goal

abbrev pub invariant-loop-arrivals : goal.invariant-loop-arrivals
invariant-loop-arrivals l = IsLeast l.lowest (came_in (arrivals_at (take l.arrivals-index l.later)))
