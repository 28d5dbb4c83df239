use Rattle.std.proofs.Common.{◌≡◌, drop, map}
use Rattle.wh_ast.specs.declared.expr.Expr.{fold-Expr}
use Rattle.wh_naming.specs.Typing as naming
use Rattle.wh_expr_bind.specs.View.{part_in}
use Rattle.wh_expr_bind.specs.Forms.{sees}
use Rattle.wh_expr_bind.proofs.expression.+typed.Given as goal

abbrev pub invariant-more_items-loop-place : goal.invariant-more_items-loop-place
invariant-more_items-loop-place l =
    naming.more_items (part_in l.left) (map (fold-Expr naming.Reading naming.step) (drop l.place l.items))
    (sees l.context) l.number (part_in l.tests)
    ≡ naming.more_items (part_in l.left) (map (fold-Expr naming.Reading naming.step) (drop 1 l.items))
    (sees l.context) l.number (part_in l.initial.tests)
