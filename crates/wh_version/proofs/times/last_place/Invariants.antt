use Rattle.std.proofs.Common.{◌≡◌, ◌-◌, drop, None}
use Rattle.wh_version.specs.Times.{is_up_to, last_place}
use Rattle.wh_version.proofs.times.last_place.Given as goal

-- none of the marks that were seen is up to the limit
abbrev pub invariant-loop-done : goal.invariant-loop-done
invariant-loop-done l = last_place (is_up_to l.time l.limit) (drop (l.count - l.done) l.later) ≡ None
