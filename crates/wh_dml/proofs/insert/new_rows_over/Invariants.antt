use Rattle.std.proofs.Common.{◌≡◌, ◌++◌, drop}
use Rattle.std.specs.Option.{option_map}
use Rattle.wh_algebra.specs.View.{scalars_of}
use Rattle.wh_effect.specs.Effect.{rows_over}
use Rattle.wh_dml.proofs.insert.new_rows_over.Given as goal

abbrev pub invariant-loop-old : goal.invariant-loop-old
invariant-loop-old l =
    rows_over (scalars_of l.parts) l.source
    ≡ option_map (λ rest. l.added.items ++ rest) (rows_over (scalars_of l.parts) (drop l.old-index l.source))
