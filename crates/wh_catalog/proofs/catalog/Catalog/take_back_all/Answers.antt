use Rattle.std.proofs.Common.{◌≡◌, ◌++◌, ◌∷◌, [], ◌∙◌, ap, sym}
use Rattle.wh_catalog.specs.Catalog.{kept_of}
use Rattle.wh_catalog.specs.Undo.{undone}
use Rattle.wh_catalog.proofs.Steps.{undone_more}
use Rattle.wh_catalog.proofs.catalog.Catalog.take_back_all.Goals as goal

pub loop-step-preserved : goal.loop-step-preserved
loop-step-preserved c =
    let at = c.loop-step in
    let left = c.pop.new.self.items in
    let step = c.in-Some.step in
    let items : at.steps.items ≡ left ++ step ∷ [] = c.in-Some.ensures.items in (
      ap (undone left) c.take_back.ensures.back
          ∙ sym (undone_more left step (kept_of at.self))
          ∙ ap (λ steps. undone steps (kept_of at.self)) (sym items)
          ∙ at.invariant.0,
      c.take_back.ensures.last ∙ at.invariant.1,
      c.take_back.ensures.committed ∙ at.invariant.2,
    )
