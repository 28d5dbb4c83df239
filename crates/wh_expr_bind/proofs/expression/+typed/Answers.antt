use Rattle.std.proofs.Common.{◌≡◌, ◌∙◌, List, length, map, sym, subst, arith}
use Rattle.std.proofs.lemmas.Grind.{common_steps}
use Rattle.std.specs.Prelude.{IfOk}
use Rattle.wh_ast.specs.declared.expr.Expr.{Expr, fold-Expr}
use Rattle.wh_naming.specs.Typing as naming
use Rattle.wh_expr_bind.specs.View.{part_in}
use Rattle.wh_expr_bind.specs.Forms.{sees}
use Rattle.wh_expr_bind.proofs.ItemLemmas.{no_items, items_step, items_end}
use Rattle.wh_expr_bind.proofs.expression.+typed.Goals as goal

pub among-returns-then-is_empty : goal.among-returns-then-is_empty
among-returns-then-is_empty t c =
    let none : length c.args.items.now ≡ 0 = grind (arith, common_steps) in
    let read = fold-Expr naming.Reading naming.step in
    let context = sees c.args.context in
    subst (λ (es : List Expr). IfOk c.among_none.result
    (λ t. part_in t ≡ naming.among (part_in c.args.x) (map read es) context c.args.number))
    (sym (no_items c.args.items.now none)) (c.among_none.ensures context c.args.number)

pub more_items-loop-place-preserved : goal.more_items-loop-place-preserved
more_items-loop-place-preserved t c =
    items_step (part_in c.args.left.now) (fold-Expr naming.Reading naming.step) c.args.items.now c.loop-place.place
    c.index-items-place.result (sees c.args.context) c.args.number (part_in c.loop-place.tests)
    (part_in c.in_ok-tests.tests) c.loop-place-test.true c.index-items-place.is c.in_ok-tests.ensures
    ∙ c.loop-place.invariant

pub more_items-returns : goal.more_items-returns
more_items-returns t c =
    items_end (part_in c.args.left.now) (fold-Expr naming.Reading naming.step) c.args.items.now c.loop-place.place
    (sees c.args.context) c.args.number _ _ c.loop-place-test.false c.loop-place.invariant
