use Rattle.std.proofs.Common.{arith}
use Rattle.wh_change.specs.Appended.{arrivals_at, came_in}
use Rattle.wh_change.proofs.MeetingLaws.{none_above}
use Rattle.wh_change.proofs.meeting.may_meet.Goals as goal

pub returns-then-last-lowest : goal.returns-then-last-lowest
returns-then-last-lowest c =
    none_above c.args.lowest c.args.one.now.partition (came_in (arrivals_at c.args.later.now)) c.last.ensures.rising
    c.requires (omega (arith, c.if-last-lowest.true, c.last.ensures.last))
