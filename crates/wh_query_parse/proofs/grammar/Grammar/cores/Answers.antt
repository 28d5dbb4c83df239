use Rattle.std.proofs.Common.{rules, arith}
use Rattle.std.proofs.lemmas.Grind.{common_steps}
use Rattle.wh_query_parse.specs.Read.{nested, cores_from}
use Rattle.wh_query_parse.proofs.Counting.{one_core}
use Rattle.wh_cursor.proofs.Turns.{one_more, no_more}
use Rattle.wh_query_parse.proofs.grammar.Grammar.cores.Goals as goal

pub returns-in_err-core : goal.returns-in_err-core
unfolding cores_from
returns-in_err-core g c =
    let e = one_more (λ n. cores_from (nested c.args.self.now.depth) c.args.self.now.depth n c.loop-turn.found
    c.loop-turn.words) _ c.loop-turn._turn c.loop-turn-test.true c.loop-turn.invariant in
    first_of (search rules, grind (arith, common_steps))

pub returns-then-not-eat_word : goal.returns-then-not-eat_word
unfolding cores_from
returns-then-not-eat_word g c =
    let e = one_more (λ n. cores_from (nested c.args.self.now.depth) c.args.self.now.depth n c.loop-turn.found
    c.loop-turn.words) _ c.loop-turn._turn c.loop-turn-test.true c.loop-turn.invariant in
    first_of (search rules, grind (arith, common_steps))

pub returns-in_err-expect_word : goal.returns-in_err-expect_word
unfolding cores_from
returns-in_err-expect_word g c =
    let e = one_more (λ n. cores_from (nested c.args.self.now.depth) c.args.self.now.depth n c.loop-turn.found
    c.loop-turn.words) _ c.loop-turn._turn c.loop-turn-test.true c.loop-turn.invariant in
    first_of (search rules, grind (arith, common_steps))

pub loop-turn-preserved : goal.loop-turn-preserved
loop-turn-preserved g c =
    let e = one_more (λ n. cores_from (nested c.args.self.now.depth) c.args.self.now.depth n c.loop-turn.found
    c.loop-turn.words) _ c.loop-turn._turn c.loop-turn-test.true c.loop-turn.invariant in
    grind (arith, common_steps, one_core)

pub returns : goal.returns
unfolding cores_from
returns g c =
    let e = no_more (λ n. cores_from (nested c.args.self.now.depth) c.args.self.now.depth n c.loop-turn.found
    c.loop-turn.words) _ c.loop-turn._turn c.loop-turn-test.false c.loop-turn.invariant in
    first_of (search rules, grind (arith, common_steps))
