use Rattle.std.proofs.Common.{◌∙◌, sym, ap, option_map, Option}
use Rattle.wh_scalar.specs.View.{scalar_of}
use Rattle.wh_scalar.specs.declared.scalar.Scalar.{Scalar}
use Rattle.wh_dml_bind.proofs.RowLemmas.{given_met, given_passed}
use Rattle.wh_dml_bind.proofs.rows.given.Goals as goal

pub returns-then-is_at : goal.returns-then-is_at
returns-then-is_at c =
    ap (λ (x : Option Scalar). option_map scalar_of x) c.at.ensures
    ∙ sym (given_met c.args.place c.loop-index.index c.args.places.now c.args.scalars.now _ c.loop-index-test.true
    (sym c.is_at.ensures ∙ c.if-is_at.true))
    ∙ c.loop-index.invariant

pub loop-index-preserved : goal.loop-index-preserved
loop-index-preserved c =
    sym (given_passed c.args.place c.loop-index.index c.args.places.now c.args.scalars.now _ c.loop-index-test.true
    (sym c.is_at.ensures ∙ c.if-is_at.false))
    ∙ c.loop-index.invariant
