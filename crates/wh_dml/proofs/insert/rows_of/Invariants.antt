use Rattle.std.proofs.Common.{◌≡◌, ◌++◌, drop}
use Rattle.std.specs.Option.{option_map}
use Rattle.wh_bound_change.specs.View as bound
use Rattle.wh_effect.specs.Effect.{rows_of}
use Rattle.wh_dml.proofs.insert.rows_of.Given as goal

abbrev pub invariant-loop-parts : goal.invariant-loop-parts
invariant-loop-parts l =
    rows_of (bound.rows_of l.rows)
    ≡ option_map (λ rest. l.added.items ++ rest) (rows_of (bound.rows_of (drop l.parts-index l.rows)))
