use Rattle.std.proofs.Common.{◌≡◌, ◌-◌}
use Rattle.wh_expr_parse.specs.Read.{nested, items, items_from}
use Rattle.wh_expr_parse.proofs.grammar.Grammar.items.Given as goal

abbrev pub invariant-loop-turn : goal.invariant-loop-turn
invariant-loop-turn g l =
    items (nested l.self.depth) l.fn.tokens ≡ items_from (nested l.self.depth) (l._turn-end - l._turn) l.found l.tokens
