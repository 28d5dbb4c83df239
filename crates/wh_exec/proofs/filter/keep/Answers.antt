use Rattle.std.proofs.Common.{refl, sym, ap, Some, ◌∙◌}
use Rattle.std.specs.Option.{option_map}
use Rattle.wh_meaning.specs.Scalar.{val, is_true}
use Rattle.wh_scalar.specs.View.{scalar_of}
use Rattle.wh_exec.proofs.Added.{kept_true, kept_false}
use Rattle.wh_exec.proofs.filter.keep.Goals as goal

pub returns-in_ok-put : goal.returns-in_ok-put
returns-in_ok-put c =
    kept_true (scalar_of c.args.condition.now) _ _ _ c.args.row refl
    (ap (λ row. option_map is_true (val (scalar_of c.args.condition.now) row)) (sym c.row.ensures)
    ∙ c.in_ok-holds.ensures ∙ ap Some c.if-branch.true) c.in_ok-put.ensures

pub returns-else-branch : goal.returns-else-branch
returns-else-branch c =
    kept_false (scalar_of c.args.condition.now) _ _
    (ap (λ row. option_map is_true (val (scalar_of c.args.condition.now) row)) (sym c.row.ensures)
    ∙ c.in_ok-holds.ensures ∙ ap Some c.if-branch.false)
