use Rattle.std.proofs.Common.{◌≡◌, ◌-◌, []}
use Rattle.wh_query_parse.specs.Read.{nested, cores_from}
use Rattle.wh_query_parse.proofs.grammar.Grammar.cores.Given as goal

abbrev pub invariant-loop-turn : goal.invariant-loop-turn
invariant-loop-turn g l = cores_from (nested l.self.depth) l.self.depth 64 [] l.fn.words
    ≡ cores_from (nested l.self.depth) l.self.depth (64 - l._turn) l.found l.words
