use Rattle.std.proofs.Common.{Some, sym, ap, ◌∙◌}
use Rattle.wh_exec.specs.Source.{bag_found}
use Rattle.wh_refresh.proofs.evaluation.evaluated_over.Goals as goal

pub returns-in_default-clause-found : goal.returns-in_default-clause-found
returns-in_default-clause-found g c = λ shown.
    ap bag_found (sym c.in_default.is) ∙ c.in_ok-tuples.ensures.rows shown

pub returns-clause-found : goal.returns-clause-found
returns-clause-found g c = λ shown.
    ap Some c.in_ok-bag.ensures ∙ ap bag_found (sym c.in-Some.is) ∙ c.in_ok-tuples.ensures.rows shown
