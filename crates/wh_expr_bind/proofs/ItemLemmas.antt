-- The items of IN, one after another.
use Rattle.std.proofs.Common.{◌≡◌, ◌∙◌, ap, sym, refl, arith, ℕ, suc, ◌+◌, ◌<◌, ◌≤◌}
use Rattle.std.proofs.Common.{List, [], ◌∷◌, length, drop, get_or, map, add-one, drop-cons}
use Rattle.std.proofs.lemmas.List.{drop_all}
use Rattle.wh_value.proofs.ListLaws.{drop_here}
use Rattle.wh_ast.specs.declared.expr.Expr.{Expr}
use Rattle.wh_naming.specs.Typing.{Typed, Context, Reading, more_items, or_equal}
use Rattle.wh_expr_bind.specs.Forms.{alone}

-- only the scalar and the type of the left side stand in the tests
pub more_alone : (x : Typed) (items : List Reading) (context : Context) (calls : ℕ) (tests : Typed)
    → more_items (alone x) items context calls tests ≡ more_items x items context calls tests
more_alone x [] context calls tests = refl
more_alone x (item ∷ items) context calls tests =
    more_alone x items context calls (or_equal x tests (item context (calls + length tests.calls)))

-- one item more
pub items_step : (x : Typed) (read : Expr → Reading) (es : List Expr) (i : ℕ) (e : Expr) (context : Context)
    (calls : ℕ) (tests more : Typed) → i < length es → e ≡ get_or es i e
    → more ≡ or_equal x tests (read e context (calls + length tests.calls))
    → more_items x (map read (drop (i + 1) es)) context calls more
    ≡ more_items x (map read (drop i es)) context calls tests
items_step x read es i e context calls tests more lt is one =
    ap (λ t. more_items x (map read (drop (i + 1) es)) context calls t) one
    ∙ ap (λ (xs : List Expr). more_items x (map read xs) context calls tests) (sym (drop_here es i e lt is))

pub items_end : (x : Typed) (read : Expr → Reading) (es : List Expr) (i : ℕ) (context : Context) (calls : ℕ)
    (tests whole : Typed) → length es ≤ i
    → more_items x (map read (drop i es)) context calls tests ≡ whole → tests ≡ whole
items_end x read es i context calls tests whole le e =
    ap (λ (xs : List Expr). more_items x (map read xs) context calls tests) (sym (drop_all i es le)) ∙ e

pub no_items : (es : List Expr) → length es ≡ 0 → es ≡ []
no_items [] none = refl
no_items (x ∷ es) none = absurd (omega arith)
