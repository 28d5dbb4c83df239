use Rattle.std.proofs.Common.{◌≡◌, ◌-◌, length, []}
use Rattle.std.specs.Prelude.{codes}
use Rattle.wh_cursor.specs.Lists.{some_from}
use Rattle.wh_dml_parse.specs.Read.{peek_word, read_clause}
use Rattle.wh_dml_parse.proofs.clauses.merge_clauses.Given as goal

abbrev pub invariant-loop-turn : goal.invariant-loop-turn
invariant-loop-turn l = some_from (read_clause l.depth) (peek_word (codes "WHEN")) (length l.fn.words) [] l.fn.words
    ≡ some_from (read_clause l.depth) (peek_word (codes "WHEN")) (l._turn-end - l._turn) l.found l.words
