use Rattle.std.proofs.Common.{[], rules, sym}
use Rattle.std.proofs.lemmas.Result.{err_from_is_err_and}
use Rattle.wh_scalar.specs.View.{scalar_of}
use Rattle.wh_exec.proofs.Added.{added_none, so_far_all}
use Rattle.wh_exec.proofs.Kept.{undefined_some, told_next, kept_more}
use Rattle.wh_exec.proofs.filter.filtered.Goals as goal

pub returns-in_err-truths : goal.returns-in_err-truths
returns-in_err-truths g c =
    let p = err_from_is_err_and c.from_residual.result c.from_residual.ensures.1 in
    rw (p.1, p.2, sym c.deref.ensures.value)
    (undefined_some (scalar_of c.args.condition.now) c.deref.result.now _ c.in_err-truths.ensures)

pub loop-row-init : goal.loop-row-init
loop-row-init g c = record {
  so_far = record {
    whole = c.into_iter-row-iterator.ensures.into_iter_gives.0;
    added = rw c.new-kept.ensures.items (added_none _ []);
    counted = search rules;
  };
  told = rw (
    c.into_iter-row-iterator.ensures.into_iter_gives.0,
    c.into_iter-told.ensures.rest,
    sym c.deref.ensures.value,
  ) c.in_ok-truths.ensures;
}

pub loop-row-preserved : goal.loop-row-preserved
loop-row-preserved g c =
    let step = c.in-Some.ensures.steps in
    let next = told_next (scalar_of c.args.condition.now) _ _ c.in-Some.row _ step.0 c.loop-row.invariant.told in
    let took = c.next_of-holds.ensures next.0 next.1 next.2 in
    record {
      so_far = kept_more (scalar_of c.args.condition.now) next.0 c.next_of-holds.result c.loop-row.invariant.so_far step.0
          step.1 next.3 took.0 c.in_ok-pick.ensures;
      told = rw took.1 next.4;
    }

pub returns : goal.returns
returns g c = so_far_all c.loop-row.invariant.so_far c.in-None.ensures.steps.0
