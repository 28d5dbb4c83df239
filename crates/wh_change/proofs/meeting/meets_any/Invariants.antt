use Rattle.std.proofs.Common.{take}
use Rattle.wh_change.specs.Appended.{arrivals_at, came_in}
use Rattle.wh_change.specs.Seen.{HasNoneOf}
use Rattle.wh_change.proofs.meeting.meets_any.Given as goal

abbrev pub invariant-loop-arrivals : goal.invariant-loop-arrivals
invariant-loop-arrivals l = HasNoneOf (came_in (arrivals_at (take l.arrivals-index l.later))) l.one.partition
