use Rattle.std.proofs.Common.{◌∙◌}
use Rattle.std.proofs.lemmas.Result.{IfOk-weaker}
use Rattle.wh_state.specs.Bound.{kept_for}
use Rattle.wh_state.specs.Dynamic.{new_dynamic}
use Rattle.wh_catalog.specs.Catalog.{stored_of, objects_of}
use Rattle.wh_decide.proofs.dynamic_tables.made_dynamic.Goals as goal

pub returns : goal.returns
unfolding stored_of
returns c =
    let objects = objects_of c.args.sight.now.catalog.now in
    let kept = c.in_ok-kept.ensures
    ∙ (λ i. kept_for objects (c.is_incremental-is_incremental.ensures i) (c.in_ok-query.ensures i)) in
    IfOk-weaker c.new.result _ _
    (λ dynamic is. is ∙ (λ i.
    new_dynamic (c.seconds_of-lag.ensures i) (c.is_incremental-is_incremental.ensures i) (kept i) (c.in_ok-query.ensures i)))
    c.new.ensures.made
