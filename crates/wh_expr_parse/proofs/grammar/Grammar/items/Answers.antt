use Rattle.std.proofs.Common.{rules, arith}
use Rattle.std.proofs.lemmas.Grind.{common_steps}
use Rattle.wh_expr_parse.specs.Read.{nested, items, items_from}
use Rattle.wh_expr_parse.proofs.ItemSteps.{one_item}
use Rattle.wh_cursor.proofs.Turns.{one_more, no_more}
use Rattle.wh_expr_parse.proofs.grammar.Grammar.items.Goals as goal

pub loop-turn-init : goal.loop-turn-init
unfolding items
loop-turn-init g c = first_of (search rules, grind (arith, common_steps))

pub returns-in_err-spend : goal.returns-in_err-spend
unfolding items_from
returns-in_err-spend g c =
    let e = one_more (λ n. items_from (nested c.args.self.now.depth) n c.loop-turn.found c.loop-turn.tokens) _
    c.loop-turn._turn c.loop-turn-test.true c.loop-turn.invariant in
    first_of (search rules, grind (arith, common_steps))

pub returns-in_err-inner : goal.returns-in_err-inner
unfolding items_from
returns-in_err-inner g c =
    let e = one_more (λ n. items_from (nested c.args.self.now.depth) n c.loop-turn.found c.loop-turn.tokens) _
    c.loop-turn._turn c.loop-turn-test.true c.loop-turn.invariant in
    first_of (search rules, grind (arith, common_steps))

pub returns-then-not-eat : goal.returns-then-not-eat
unfolding items_from
returns-then-not-eat g c =
    let e = one_more (λ n. items_from (nested c.args.self.now.depth) n c.loop-turn.found c.loop-turn.tokens) _
    c.loop-turn._turn c.loop-turn-test.true c.loop-turn.invariant in
    first_of (search rules, grind (arith, common_steps))

pub loop-turn-preserved : goal.loop-turn-preserved
loop-turn-preserved g c =
    let e = one_more (λ n. items_from (nested c.args.self.now.depth) n c.loop-turn.found c.loop-turn.tokens) _
    c.loop-turn._turn c.loop-turn-test.true c.loop-turn.invariant in
    grind (arith, common_steps, one_item)

pub returns : goal.returns
unfolding items_from
returns g c =
    let e = no_more (λ n. items_from (nested c.args.self.now.depth) n c.loop-turn.found c.loop-turn.tokens) _
    c.loop-turn._turn c.loop-turn-test.false c.loop-turn.invariant in
    first_of (search rules, grind (arith, common_steps))
