use Rattle.std.proofs.Common.{ap, ◌∙◌}
use Rattle.std.proofs.lemmas.Result.{IfOk-weaker}
use Rattle.wh_core_bind.specs.declared.parts.BoundQuery as code
use Rattle.wh_core_bind.specs.View.{query_in}
use Rattle.wh_meaning.specs.Query.{eval}
use Rattle.wh_algebra.specs.View.{query_of as plain_query_of}
use Rattle.wh_naming.specs.Select.{BoundQuery}
use Rattle.wh_exec.specs.Source.{instance_in}
use Rattle.wh_refresh.proofs.evaluation.evaluated.Goals as goal

pub returns-clause-found : goal.returns-clause-found
unfolding query_in
returns-clause-found g c = λ shown.
    let sources = c.args.sources.now in
    IfOk-weaker c.evaluated_over.result _ _ (λ found is. is
    ∙ ap (λ (b : code.BoundQuery). eval (plain_query_of b.query) (instance_in sources)) c.get.ensures
    ∙ ap (λ (b : BoundQuery). eval b.query (instance_in sources)) c.in_ok-bound.ensures)
    (c.evaluated_over.ensures.found shown)
