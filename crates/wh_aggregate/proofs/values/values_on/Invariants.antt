use Rattle.std.proofs.Common.{◌≡◌, ◌++◌, drop}
use Rattle.std.specs.Option.{option_map}
use Rattle.wh_meaning.specs.Query.{values_on}
use Rattle.wh_algebra.specs.View.{scalars_of}
use Rattle.wh_aggregate.proofs.values.values_on.Given as goal

abbrev pub invariant-loop-scalar : goal.invariant-loop-scalar
invariant-loop-scalar l = values_on (scalars_of l.scalars) l.row
    ≡ option_map (λ rest. l.values ++ rest) (values_on (scalars_of (drop l.scalar-index l.scalars)) l.row)
