use Rattle.std.proofs.Common.{◌-◌, ◌∙◌, length, sym, arith}
use Rattle.wh_version.specs.Times.{is_up_to}
use Rattle.wh_version.proofs.LastUpTo.{found_behind}
use Rattle.wh_version.proofs.times.last_place.Goals as goal

pub returns-then-is_up_to : goal.returns-then-is_up_to
returns-then-is_up_to c =
    let later = c.args.later.now in
    let test = is_up_to c.args.time c.args.limit in
    let place = length later - c.loop-done.done in
    sym (found_behind test c.args.first later place _ (omega arith) (omega arith)
    (sym c.is_up_to.ensures ∙ c.if-is_up_to.true) c.loop-done.invariant)
