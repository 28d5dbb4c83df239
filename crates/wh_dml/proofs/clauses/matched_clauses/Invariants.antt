use Rattle.std.proofs.Common.{◌≡◌, ◌++◌, drop}
use Rattle.wh_bound_change.specs.View.{clauses_of}
use Rattle.wh_effect.specs.Effect as meaning
use Rattle.wh_dml.specs.Steps.{clauses_at}
use Rattle.wh_dml.proofs.clauses.matched_clauses.Given as goal

abbrev pub invariant-loop-clause : goal.invariant-loop-clause
invariant-loop-clause l =
    meaning.matched_clauses (clauses_of l.clauses)
    ≡ clauses_at l.found.items ++ meaning.matched_clauses (clauses_of (drop l.clause-index l.clauses))
