use Rattle.std.proofs.Common.{◌≡◌, ◌∙◌, ◌⊎◌, inl, inr, ap, sym, subst, refl, Option, Some}
use Rattle.wh_meaning.specs.Scalar as meaning
use Rattle.wh_meaning.specs.Scalar.{of_two, val}
use Rattle.wh_value.specs.Value as values
use Rattle.wh_value.specs.Value.{Row}
use Rattle.wh_value.specs.View.{value_of}
use Rattle.wh_value.specs.declared.comparison.Comparison.{Comparison}
use Rattle.wh_scalar.specs.View.{layer_of, scalar_of, Gives, of_sides}
use Rattle.wh_scalar.specs.declared.scalar.Scalar.{Scalar, fold-roll-Scalar}
use Rattle.wh_scalar.specs.declared.scalar.Scalar.TheOpen.{Scalar-F}
use Rattle.wh_scalar.specs.declared.scalar.Scalar.TheVariants.{rolls-Add, rolls-Sub, rolls-Mul, rolls-Compare}
use Rattle.wh_scalar.specs.declared.scalar.Scalar.TheVariants.{rolls-And, rolls-Or}
use Rattle.wh_scalar.specs.declared.scalar.Scalar.TheViews as views
use Rattle.wh_scalar.proofs.+eval.Goals as goal

-- a scalar of two sides, by its operator
sides_valued : (s x y : Scalar) (row : Row)
    → (s ≡ views.Add x y) ⊎ (s ≡ views.Sub x y) ⊎ (s ≡ views.Mul x y) ⊎ ((c : Comparison) × (s ≡ views.Compare c x y))
    ⊎ (s ≡ views.And x y) ⊎ (s ≡ views.Or x y)
    → of_two (of_sides (scalar_of s)) (val (scalar_of x) row) (val (scalar_of y) row) ≡ val (scalar_of s) row
unfolding val
sides_valued s x y row (inl e) = rw (ap scalar_of e ∙ ap scalar_of (sym (rolls-Add x y))
    ∙ fold-roll-Scalar meaning.Scalar layer_of (Scalar-F.Add x y)) refl
sides_valued s x y row (inr (inl e)) = rw (ap scalar_of e ∙ ap scalar_of (sym (rolls-Sub x y))
    ∙ fold-roll-Scalar meaning.Scalar layer_of (Scalar-F.Sub x y)) refl
sides_valued s x y row (inr (inr (inl e))) = rw (ap scalar_of e ∙ ap scalar_of (sym (rolls-Mul x y))
    ∙ fold-roll-Scalar meaning.Scalar layer_of (Scalar-F.Mul x y)) refl
sides_valued s x y row (inr (inr (inr (inl (c, e))))) = rw (ap scalar_of e ∙ ap scalar_of (sym (rolls-Compare c x y))
    ∙ fold-roll-Scalar meaning.Scalar layer_of (Scalar-F.Compare c x y)) refl
sides_valued s x y row (inr (inr (inr (inr (inl e))))) = rw (ap scalar_of e ∙ ap scalar_of (sym (rolls-And x y))
    ∙ fold-roll-Scalar meaning.Scalar layer_of (Scalar-F.And x y)) refl
sides_valued s x y row (inr (inr (inr (inr (inr e))))) = rw (ap scalar_of e ∙ ap scalar_of (sym (rolls-Or x y))
    ∙ fold-roll-Scalar meaning.Scalar layer_of (Scalar-F.Or x y)) refl

pub scalar::Scalar::eval-returns-in_ok-a-in-Add : goal.scalar::Scalar::eval-returns-in_ok-a-in-Add
scalar::Scalar::eval-returns-in_ok-a-in-Add t c =
    let row = c.args.row.now in
    let operator = of_sides (scalar_of c.args.self.now) in
    let first : Some (value_of c.in_ok-a-in-Add.a) ≡ val (scalar_of c.in-Add.x) row =
    sym (ap (λ (s : Scalar). val (scalar_of s) row) (sym c.get-in-Add-3.ensures) ∙ c.in_ok-a-in-Add.ensures) in
    let second = ap (λ (s : Scalar). val (scalar_of s) row) c.get-in-Add-4.ensures in
    subst (λ (m : Option values.Value). Gives c.with_second.result m)
    ((λ i. of_two operator (first i) (second i)) ∙ sides_valued c.args.self.now c.in-Add.x c.in-Add.y row c.in-Add.is)
    c.with_second.ensures
