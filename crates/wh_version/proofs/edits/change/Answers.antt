use Rattle.std.proofs.Common.{◌∙◌, ap, sym, ◌∷◌, [], ◌++◌, map, length, refl, arith}
use Rattle.std.proofs.lemmas.List.{nil_from_length, map_push}
use Rattle.wh_version.specs.RowEdits.{entry_of, entries_in, change_of}
use Rattle.wh_version.proofs.Steps.{taken_on, none_left}
use Rattle.wh_version.proofs.edits.change.Goals as goal

pub loop-number-preserved : goal.loop-number-preserved
loop-number-preserved c =
    let at = c.loop-number in
    let steps = c.in-Some.ensures.steps in (
      taken_on (λ e. change_of e ∷ []) (map change_of) (λ e es. refl) _ _ _ (entries_in at.list.items) _ _ steps.0
          (ap entries_in c.in_ok-push.ensures.items ∙ map_push entry_of at.list.items _) at.invariant.0,
      omega (arith, at.invariant.1, ap length steps.0, steps.1),
    )

pub returns : goal.returns
returns c =
    let at = c.loop-number in
    none_left (λ e. change_of e ∷ []) (map change_of) refl _ _ _
    (nil_from_length _ (sym at.invariant.1 ∙ c.in-None.ensures.steps.0)) at.invariant.0
    ∙ (λ i. entries_in (c.in_ok-reserve.ensures.items i)
    ++ map change_of (c.into_iter-number-iterator.ensures.into_iter_gives.0 i))
