use Rattle.std.proofs.Common.{◌∙◌, ◌+◌, ◌++◌, ap, drop}
use Rattle.std.specs.Option.{option_copied}
use Rattle.wh_naming.specs.Select as naming
use Rattle.wh_core_bind.specs.View.{outputs_of}
use Rattle.wh_bind.proofs.OutputLemmas.{merged_more}
use Rattle.wh_bind.proofs.merging.merged.Goals as goal

pub loop-place-preserved : goal.loop-place-preserved
loop-place-preserved c =
    let outputs = c.args.outputs.now in
    let others = c.args.others.now in
    let i = c.loop-place.place in
    ap (λ made. outputs_of made ++ naming.merged (outputs_of (drop (i + 1) outputs)) (outputs_of (drop (i + 1) others)))
    c.in_ok-push.ensures.items
    ∙ merged_more c.loop-place.merged.items c.in_ok-merged_with.field-0 outputs others i c.index-outputs-place.result
    (option_copied c.at.result) _ c.loop-place-test.true c.index-outputs-place.is c.at.ensures
    c.in_ok-merged_with.ensures c.loop-place.invariant
