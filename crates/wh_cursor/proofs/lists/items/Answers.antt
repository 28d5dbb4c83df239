use Rattle.std.proofs.Common.{rules, arith}
use Rattle.std.proofs.lemmas.Grind.{common_steps}
use Rattle.wh_cursor.specs.declared.key.TokenClass.TheVariants as k
use Rattle.wh_cursor.specs.Steps.{eat_key}
use Rattle.wh_cursor.specs.Lists.{some_from}
use Rattle.wh_cursor.proofs.Turns.{one_more, no_more}
use Rattle.wh_cursor.proofs.ListLemmas.{one_turn}
use Rattle.wh_cursor.proofs.lists.items.Goals as goal

pub returns-in_err-item : goal.returns-in_err-item
unfolding some_from
returns-in_err-item g c =
    let i = c.requires.1.1.1.reads _ _ _ _ c.item.ensures in
    let e = one_more (λ n. some_from g.reader (eat_key k.Comma) n c.loop-turn.found c.loop-turn.words) _
    c.loop-turn._turn c.loop-turn-test.true c.loop-turn.invariant in
    first_of (search rules, grind (arith, common_steps))

pub returns-then-not-eat : goal.returns-then-not-eat
unfolding some_from
returns-then-not-eat g c =
    let i = c.requires.1.1.1.reads _ _ _ _ c.item.ensures in
    let e = one_more (λ n. some_from g.reader (eat_key k.Comma) n c.loop-turn.found c.loop-turn.words) _
    c.loop-turn._turn c.loop-turn-test.true c.loop-turn.invariant in
    first_of (search rules, grind (arith, common_steps))

pub loop-turn-preserved : goal.loop-turn-preserved
loop-turn-preserved g c =
    let i = c.requires.1.1.1.reads _ _ _ _ c.item.ensures in
    let e = one_more (λ n. some_from g.reader (eat_key k.Comma) n c.loop-turn.found c.loop-turn.words) _
    c.loop-turn._turn c.loop-turn-test.true c.loop-turn.invariant in
    grind (arith, common_steps, one_turn)

pub returns : goal.returns
unfolding some_from
returns g c =
    let e = no_more (λ n. some_from g.reader (eat_key k.Comma) n c.loop-turn.found c.loop-turn.words) _
    c.loop-turn._turn c.loop-turn-test.false c.loop-turn.invariant in
    first_of (search rules, grind (arith, common_steps))
