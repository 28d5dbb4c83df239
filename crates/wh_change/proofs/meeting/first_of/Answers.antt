use Rattle.std.proofs.Common.{arith}
use Rattle.wh_change.proofs.MeetingLaws.{least_first}
use Rattle.wh_change.proofs.meeting.first_of.Goals as goal

pub returns : goal.returns
returns c number there =
    let low = least_first c.args.one.now.partition c.last-end.ensures.rising number there in
    omega (arith, low, c.first.ensures)
