use Rattle.std.proofs.Common.{◌≡◌, ◌-◌, []}
use Rattle.wh_query_parse.specs.Read.{nested, joins_from}
use Rattle.wh_query_parse.proofs.grammar.Grammar.joins.Given as goal

abbrev pub invariant-loop-turn : goal.invariant-loop-turn
invariant-loop-turn g l = joins_from (nested l.self.depth) l.self.depth 15 [] l.fn.words
    ≡ joins_from (nested l.self.depth) l.self.depth (15 - l._turn) l.found l.words
