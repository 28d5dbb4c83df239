use Rattle.std.proofs.Common.{rules, arith}
use Rattle.std.proofs.lemmas.Grind.{common_steps}
use Rattle.wh_cursor.proofs.Turns.{one_more, no_more}
use Rattle.wh_option_parse.specs.Read.{options_from}
use Rattle.wh_option_parse.proofs.gathering.options.Goals as goal

pub returns-in_err-more : goal.returns-in_err-more
unfolding options_from
returns-in_err-more g c = λ reader r.
    let i = r.reads _ _ _ _ _ c.option.ensures in
    let e = one_more (λ n. options_from reader n c.loop-turn.parts c.loop-turn.words) _
    c.loop-turn._turn c.loop-turn-test.true (c.loop-turn.invariant reader r) in
    first_of (search rules, grind (arith, common_steps))

pub returns-in_default : goal.returns-in_default
unfolding options_from
returns-in_default g c = λ reader r.
    let i = r.reads _ _ _ _ _ c.option.ensures in
    let e = one_more (λ n. options_from reader n c.loop-turn.parts c.loop-turn.words) _
    c.loop-turn._turn c.loop-turn-test.true (c.loop-turn.invariant reader r) in
    first_of (search rules, grind (arith, common_steps))

pub loop-turn-preserved : goal.loop-turn-preserved
unfolding options_from
loop-turn-preserved g c = λ reader r.
    let i = r.reads _ _ _ _ _ c.option.ensures in
    let e = one_more (λ n. options_from reader n c.loop-turn.parts c.loop-turn.words) _
    c.loop-turn._turn c.loop-turn-test.true (c.loop-turn.invariant reader r) in
    first_of (search rules, grind (arith, common_steps))

pub returns : goal.returns
unfolding options_from
returns g c = λ reader r.
    let e = no_more (λ n. options_from reader n c.loop-turn.parts c.loop-turn.words) _
    c.loop-turn._turn c.loop-turn-test.false (c.loop-turn.invariant reader r) in
    first_of (search rules, grind (arith, common_steps))
