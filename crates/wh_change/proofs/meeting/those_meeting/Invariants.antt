use Rattle.wh_change.specs.Appended.{arrivals_at, came_in}
use Rattle.wh_change.proofs.MeetingLaws.{IsChosen}
use Rattle.wh_change.proofs.meeting.those_meeting.Given as goal

abbrev pub invariant-loop-one : goal.invariant-loop-one
invariant-loop-one l = IsChosen (came_in (arrivals_at l.later)) l.front l.one-index l.found.items
