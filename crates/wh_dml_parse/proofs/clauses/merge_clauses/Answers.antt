use Rattle.std.proofs.Common.{rules, arith}
use Rattle.std.proofs.lemmas.Grind.{common_steps}
use Rattle.std.specs.Prelude.{codes}
use Rattle.wh_cursor.specs.Lists.{some_from}
use Rattle.wh_dml_parse.specs.Read.{read_clauses, read_clause, peek_word}
use Rattle.wh_cursor.proofs.Turns.{one_more, no_more}
use Rattle.wh_dml_parse.proofs.Several.{one_clause}
use Rattle.wh_dml_parse.proofs.clauses.merge_clauses.Goals as goal

pub returns-in_err-merge_clause : goal.returns-in_err-merge_clause
unfolding read_clauses some_from
returns-in_err-merge_clause c =
    let e = one_more (λ n. some_from (read_clause c.args.depth) (peek_word (codes "WHEN")) n c.loop-turn.found
    c.loop-turn.words) _ c.loop-turn._turn c.loop-turn-test.true c.loop-turn.invariant in
    first_of (search rules, grind (arith, common_steps))

pub returns-then-not-sees_word : goal.returns-then-not-sees_word
unfolding read_clauses some_from
returns-then-not-sees_word c =
    let e = one_more (λ n. some_from (read_clause c.args.depth) (peek_word (codes "WHEN")) n c.loop-turn.found
    c.loop-turn.words) _ c.loop-turn._turn c.loop-turn-test.true c.loop-turn.invariant in
    first_of (search rules, grind (arith, common_steps))

pub loop-turn-preserved : goal.loop-turn-preserved
loop-turn-preserved c =
    let e = one_more (λ n. some_from (read_clause c.args.depth) (peek_word (codes "WHEN")) n c.loop-turn.found
    c.loop-turn.words) _ c.loop-turn._turn c.loop-turn-test.true c.loop-turn.invariant in
    grind (arith, common_steps, one_clause)

pub returns : goal.returns
unfolding read_clauses some_from
returns c =
    let e = no_more (λ n. some_from (read_clause c.args.depth) (peek_word (codes "WHEN")) n c.loop-turn.found
    c.loop-turn.words) _ c.loop-turn._turn c.loop-turn-test.false c.loop-turn.invariant in
    first_of (search rules, grind (arith, common_steps))
