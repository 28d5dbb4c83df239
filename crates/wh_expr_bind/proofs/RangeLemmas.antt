-- BETWEEN as the AND of its bounds.
use Rattle.std.proofs.Common.{◌≡◌, Bool, true, false, ◌||◌, not, Option, Some, None, refl}
use Rattle.wh_ast.specs.declared.expr.Operator.TheVariants.{And}
use Rattle.wh_value.specs.Column.{BooleanType}
use Rattle.wh_value.specs.declared.comparison.Comparison.TheVariants.{GreaterOrEqual, LessOrEqual}
use Rattle.wh_naming.specs.Findings.{either}
use Rattle.wh_naming.specs.Typing.{Typed, alike, compared_with, ranged_between}
use Rattle.wh_expr_bind.specs.Forms.{alone, under}

-- the first name that is found in the bounds
name_last : {A : Type 0} (x low high : Option A)
    → either (either (either (either x low) None) (either high None)) None ≡ either (either (either x low) high) None
name_last (Some a) low high = refl
name_last None (Some a) high = refl
name_last None None (Some a) = refl
name_last None None None = refl

-- whether anything in them is mistyped
found_last : (found high low_wrong high_wrong : Bool)
    → ((found || low_wrong) || (high || high_wrong)) || false ≡ (found || high) || (low_wrong || high_wrong)
found_last true h a b = refl
found_last false true true b = refl
found_last false true false b = refl
found_last false false true b = refl
found_last false false false true = refl
found_last false false false false = refl

pub both_bounds : (x low high : Typed)
    → under And BooleanType (compared_with GreaterOrEqual x low) (compared_with LessOrEqual (alone x) high) false
    ≡ ranged_between x low high
unfolding under
both_bounds x low high =
    let a = x.findings in
    let b = low.findings in
    let c = high.findings in
    let low_wrong = not (alike x.type_of low.type_of) in
    let high_wrong = not (alike x.type_of high.type_of) in
    rw (
      name_last a.unknown_object b.unknown_object c.unknown_object,
      name_last a.wrong_kind b.wrong_kind c.wrong_kind,
      name_last a.unknown_column b.unknown_column c.unknown_column,
      name_last a.taken b.taken c.taken,
      found_last (a.is_mistyped || b.is_mistyped) c.is_mistyped low_wrong high_wrong,
    ) refl
