use Rattle.std.proofs.Common.{◌≡◌, ap, arith}
use Rattle.wh_expr_parse.specs.Read.{nested}
use Rattle.wh_cursor.proofs.Turns.{deeper}
use Rattle.wh_expr_parse.proofs.grammar.+nested.Goals as goal

pub returns-then-depth-eq0 : goal.returns-then-depth-eq0
unfolding nested
returns-then-depth-eq0 t c = let none : c.args.depth ≡ 0 = omega arith in
    ap (λ n. nested n c.args.level c.args.tokens.now) none

pub returns : goal.returns
unfolding nested
returns t c = rw (deeper (λ n. nested n c.args.level c.args.tokens.now) c.args.depth (omega arith)) c.level.ensures
