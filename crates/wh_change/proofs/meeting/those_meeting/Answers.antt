use Rattle.std.proofs.Common.{◌+◌, [], ◌∷◌, ◌++◌, ◌∙◌, ap}
use Rattle.wh_change.specs.Appended.{arrivals_at, came_in}
use Rattle.wh_change.proofs.MeetingLaws.{chosen_more, chosen_past, chosen_so, chosen_all}
use Rattle.wh_change.proofs.meeting.those_meeting.Goals.{then-may_meet+in_ok-push, else-may_meet}
use Rattle.wh_change.proofs.meeting.those_meeting.Goals as goal

pub loop-one-preserved : goal.loop-one-preserved
loop-one-preserved c =
    let at = c.loop-one in
    let asked = came_in (arrivals_at c.args.later.now) in
    let front = c.args.front.now in
    let one = c.one-item.result in
    elim c.if-may_meet.branch [
      | then-may_meet+in_ok-push w ↦ chosen_so asked front (at.one-index + 1) (at.found.items ++ one ∷ []) _
          (ap (λ v. v.items) w.found-is ∙ w.in_ok-push.ensures.items)
          (chosen_more asked front at.one-index one at.found.items c.loop-one-test.true c.one-item.is at.invariant)
      | else-may_meet w ↦ chosen_so asked front (at.one-index + 1) at.found.items _ (ap (λ v. v.items) w.found-is)
          (chosen_past asked front at.one-index one at.found.items c.loop-one-test.true c.one-item.is
          w.if-may_meet.ensures at.invariant)
    ]

pub returns-clause-seen : goal.returns-clause-seen
returns-clause-seen c = (chosen_all (came_in (arrivals_at c.args.later.now)) c.args.front.now c.loop-one.one-index
    c.loop-one.found.items c.loop-one-test.false c.loop-one.invariant).0

pub returns-clause-among : goal.returns-clause-among
returns-clause-among c = (chosen_all (came_in (arrivals_at c.args.later.now)) c.args.front.now c.loop-one.one-index
    c.loop-one.found.items c.loop-one-test.false c.loop-one.invariant).1
