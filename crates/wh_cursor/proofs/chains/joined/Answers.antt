use Rattle.std.proofs.Common.{rules, arith}
use Rattle.std.proofs.lemmas.Grind.{common_steps}
use Rattle.wh_cursor.specs.Chains.{joined}
use Rattle.wh_cursor.proofs.Turns.{one_more, no_more}
use Rattle.wh_cursor.proofs.chains.joined.Goals as goal

pub returns-in_err-found : goal.returns-in_err-found
unfolding joined
returns-in_err-found g c = λ links r.
    let i = r.operator.reads _ _ _ c.operator.ensures in
    let e = one_more (λ n. joined links n c.loop-turn.left c.loop-turn.tokens) _
    c.loop-turn._turn c.loop-turn-test.true (c.loop-turn.invariant links r) in
    first_of (search rules, grind (arith, common_steps))

pub returns-in_default : goal.returns-in_default
unfolding joined
returns-in_default g c = λ links r.
    let i = r.operator.reads _ _ _ c.operator.ensures in
    let e = one_more (λ n. joined links n c.loop-turn.left c.loop-turn.tokens) _
    c.loop-turn._turn c.loop-turn-test.true (c.loop-turn.invariant links r) in
    first_of (search rules, grind (arith, common_steps))

pub returns-in_err-right : goal.returns-in_err-right
unfolding joined
returns-in_err-right g c = λ links r.
    let i = r.operator.reads _ _ _ c.operator.ensures in
    let j = r.operand.reads _ _ _ c.operand.ensures in
    let e = one_more (λ n. joined links n c.loop-turn.left c.loop-turn.tokens) _
    c.loop-turn._turn c.loop-turn-test.true (c.loop-turn.invariant links r) in
    first_of (search rules, grind (arith, common_steps))

pub loop-turn-preserved : goal.loop-turn-preserved
unfolding joined
loop-turn-preserved g c = λ links r.
    let i = r.operator.reads _ _ _ c.operator.ensures in
    let j = r.operand.reads _ _ _ c.operand.ensures in
    let k = r.make _ _ _ _ c.join.ensures in
    let e = one_more (λ n. joined links n c.loop-turn.left c.loop-turn.tokens) _
    c.loop-turn._turn c.loop-turn-test.true (c.loop-turn.invariant links r) in
    first_of (search rules, grind (arith, common_steps))

pub returns : goal.returns
unfolding joined
returns g c = λ links r.
    let e = no_more (λ n. joined links n c.loop-turn.left c.loop-turn.tokens) _
    c.loop-turn._turn c.loop-turn-test.false (c.loop-turn.invariant links r) in
    first_of (search rules, grind (arith, common_steps))
