use Rattle.std.proofs.Common.{rules, arith}
use Rattle.std.proofs.lemmas.Grind.{common_steps}
use Rattle.wh_query_parse.specs.Read.{nested, joins_from}
use Rattle.wh_query_parse.proofs.Counting.{one_join}
use Rattle.wh_cursor.proofs.Turns.{one_more, no_more}
use Rattle.wh_query_parse.proofs.grammar.Grammar.joins.Goals as goal

pub returns-then-not-sees_join : goal.returns-then-not-sees_join
unfolding joins_from
returns-then-not-sees_join g c =
    let e = one_more (λ n. joins_from (nested c.args.self.now.depth) c.args.self.now.depth n c.loop-turn.found
    c.loop-turn.words) _ c.loop-turn._turn c.loop-turn-test.true c.loop-turn.invariant in
    first_of (search rules, grind (arith, common_steps))

pub returns-in_err-join : goal.returns-in_err-join
unfolding joins_from
returns-in_err-join g c =
    let e = one_more (λ n. joins_from (nested c.args.self.now.depth) c.args.self.now.depth n c.loop-turn.found
    c.loop-turn.words) _ c.loop-turn._turn c.loop-turn-test.true c.loop-turn.invariant in
    first_of (search rules, grind (arith, common_steps))

pub loop-turn-preserved : goal.loop-turn-preserved
loop-turn-preserved g c =
    let e = one_more (λ n. joins_from (nested c.args.self.now.depth) c.args.self.now.depth n c.loop-turn.found
    c.loop-turn.words) _ c.loop-turn._turn c.loop-turn-test.true c.loop-turn.invariant in
    grind (arith, common_steps, one_join)

pub returns : goal.returns
unfolding joins_from
returns g c =
    let e = no_more (λ n. joins_from (nested c.args.self.now.depth) c.args.self.now.depth n c.loop-turn.found
    c.loop-turn.words) _ c.loop-turn._turn c.loop-turn-test.false c.loop-turn.invariant in
    first_of (search rules, grind (arith, common_steps))
