use Rattle.std.proofs.Common.{◌∙◌, sym}
use Rattle.std.proofs.lemmas.List.{length-map}
use Rattle.wh_core_bind.specs.View.{output_of, outputs_of}
use Rattle.wh_bind.proofs.OutputLemmas.{not_as_many}
use Rattle.wh_bind.proofs.merging.fit_each_other.Goals as goal

pub returns-then-outputs-others : goal.returns-then-outputs-others
returns-then-outputs-others c =
    let outputs = c.args.outputs.now in
    let others = c.args.others.now in
    sym (not_as_many (outputs_of outputs) (outputs_of others)
    (λ e. c.if-outputs-others.true (sym (length-map outputs output_of) ∙ e ∙ length-map others output_of)))
