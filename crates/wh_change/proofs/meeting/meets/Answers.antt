use Rattle.std.proofs.Common.{inl, inr, arith}
use Rattle.std.proofs.lemmas.Bool.{OnFalse_from, leb-false}
use Rattle.wh_change.proofs.MeetingLaws.{none_between}
use Rattle.wh_change.proofs.meeting.meets.Goals as goal

pub returns-then-first-last : goal.returns-then-first-last
returns-then-first-last c =
    let p = c.args.one.now.partition in
    let q = c.args.other.now.partition in
    OnFalse_from _ _ (λ is. none_between p q c.last-end.ensures.rising c.last-last.ensures.rising
    (inr (let above = leb-false _ _ is in omega (arith, above, c.last-end.ensures.last, c.first-then-first-last.ensures))))

pub returns-else-first-last : goal.returns-else-first-last
returns-else-first-last c =
    let p = c.args.one.now.partition in
    let q = c.args.other.now.partition in
    OnFalse_from _ _ (λ is. none_between p q c.last-end.ensures.rising c.last-last.ensures.rising
    (inl (let above = leb-false _ _ is in omega (arith, above, c.last-last.ensures.last, c.first.ensures))))
