use Rattle.std.proofs.Common.{◌≡◌, ◌<◌, ◌+◌, ◌-◌, length, arith}
use Rattle.std.proofs.lemmas.Result.{err_from_is_err_and}
use Rattle.wh_exec.proofs.PartLaws.{step_back, stops_back}
use Rattle.wh_exec.proofs.pouring.walked.Goals as goal

pub loop-ahead-preserved : goal.loop-ahead-preserved
loop-ahead-preserved g c =
    let at = c.loop-ahead in
    let next : at.ahead - 1 + 1 ≡ at.ahead = omega arith in
    let within : at.ahead - 1 < length c.args.steps.now = omega arith in
    record {
      within = omega arith;
      left = step_back c.args.steps.now at.ahead (at.ahead - 1) c.index-steps-ahead.result _ _ next within
          c.index-steps-ahead.is at.invariant.left _ c.in_ok-found.ensures;
    }

pub returns-in_err-found : goal.returns-in_err-found
returns-in_err-found g c =
    let at = c.loop-ahead in
    let next : at.ahead - 1 + 1 ≡ at.ahead = omega arith in
    let within : at.ahead - 1 < length c.args.steps.now = omega arith in
    let p = err_from_is_err_and c.from_residual.result c.from_residual.ensures.1 in
    rw (p.1, p.2) (stops_back c.args.steps.now at.ahead (at.ahead - 1) c.index-steps-ahead.result _ _ next within
    c.index-steps-ahead.is at.invariant.left _ c.in_err-found.ensures)
