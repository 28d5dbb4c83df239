use Rattle.std.proofs.Common.{◌∙◌, ap, sym, ◌∷◌, [], ◌++◌, map, length, refl, arith}
use Rattle.std.proofs.lemmas.List.{nil_from_length}
use Rattle.wh_version.specs.Lasting.{fresh}
use Rattle.wh_version.proofs.Steps.{taken_on, none_left}
use Rattle.wh_version.proofs.pushing.append.Goals as goal

pub push_reserved-requires : goal.push_reserved-requires
push_reserved-requires c =
    omega (arith, c.loop-filed.invariant.2, ap length c.in-Some.ensures.steps.0)

pub loop-filed-preserved : goal.loop-filed-preserved
loop-filed-preserved c =
    let at = c.loop-filed in
    let steps = c.in-Some.ensures.steps in
    let count = ap length steps.0 in (
      taken_on (λ p. fresh p ∷ []) (map fresh) (λ p ps. refl) _ _ _ at.kept.items _ _ steps.0
          c.push_reserved.ensures.items at.invariant.0,
      omega (arith, at.invariant.1, count, steps.1),
      omega (arith, at.invariant.2, count, c.push_reserved.ensures.len, c.push_reserved.ensures.capacity),
    )

pub returns : goal.returns
returns c =
    let at = c.loop-filed in
    none_left (λ p. fresh p ∷ []) (map fresh) refl _ _ _
    (nil_from_length _ (sym at.invariant.1 ∙ c.in-None.ensures.steps.0)) at.invariant.0
    ∙ ap (λ ps. c.args.kept.now.items ++ map fresh ps) c.into_iter-filed-iterator.ensures.into_iter_gives.0
