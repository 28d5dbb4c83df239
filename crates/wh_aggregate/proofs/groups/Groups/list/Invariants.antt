use Rattle.std.proofs.Common.{◌≡◌, ◌++◌}
use Rattle.std.specs.Prelude.{option_map}
use Rattle.wh_algebra.specs.View.{calls_of}
use Rattle.wh_aggregate.specs.Groups.{listed}
use Rattle.wh_aggregate.proofs.groups.Groups.list.Given as goal

abbrev pub invariant-loop-key : goal.invariant-loop-key
invariant-loop-key l = listed (calls_of l.calls) l.initial.key-iterator
    ≡ option_map (λ rest. l.rows.items ++ rest) (listed (calls_of l.calls) l.key-iterator)
