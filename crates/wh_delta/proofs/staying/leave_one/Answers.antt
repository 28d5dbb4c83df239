use Rattle.wh_bag.proofs.Faults.{on_ok}
use Rattle.wh_delta.proofs.Walk.{gone_one, kept_one}
use Rattle.wh_delta.proofs.staying.leave_one.Goals as goal

pub returns-then-count : goal.returns-then-count
returns-then-count c = λ seen so. on_ok c.note.result (gone_one _ seen _ _ _ _ _ _
    c.count.ensures c.count-2.ensures c.if-count.true so) c.note.ensures

pub returns : goal.returns
returns c = λ seen so. kept_one _ seen _ _ _ _ _ _
    c.count.ensures c.count-2.ensures c.if-count.false so c.in_ok-push.ensures.items
