use Rattle.std.proofs.Common.{[], rules}
use Rattle.std.proofs.lemmas.Result.{err_from_is_err_and}
use Rattle.wh_exec.proofs.Added.{added_none, so_far_more, so_far_all, so_far_fails}
use Rattle.wh_exec.proofs.project.projected_in_turn.Goals as goal

pub loop-row-init : goal.loop-row-init
loop-row-init c = record {
  whole = c.into_iter-row-iterator.ensures.into_iter_gives.0;
  added = rw c.new-images.ensures.items (added_none _ []);
  counted = search rules;
}

pub loop-row-preserved : goal.loop-row-preserved
loop-row-preserved c =
    so_far_more c.loop-row.invariant c.in-Some.ensures.steps.0 c.in-Some.ensures.steps.1 c.in_ok-project.ensures

pub returns-in_err-project : goal.returns-in_err-project
returns-in_err-project c =
    let p = err_from_is_err_and c.from_residual.result c.from_residual.ensures.1 in
    rw (p.1, p.2) (so_far_fails _ c.loop-row.invariant c.in-Some.ensures.steps.0 c.in_err-project.ensures)

pub returns : goal.returns
returns c = so_far_all c.loop-row.invariant c.in-None.ensures.steps.0
