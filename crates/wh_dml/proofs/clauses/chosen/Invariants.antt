use Rattle.std.proofs.Common.{◌≡◌, drop}
use Rattle.std.specs.Option.{option_map}
use Rattle.wh_dml.specs.Steps.{choice, clause_at, clauses_at, first_of}
use Rattle.wh_dml.proofs.clauses.chosen.Given as goal

abbrev pub invariant-loop-clause : goal.invariant-loop-clause
invariant-loop-clause l =
    choice (clauses_at l.clauses) l.row
    ≡ option_map (first_of (option_map clause_at l.found)) (choice (clauses_at (drop l.clause-index l.clauses)) l.row)
