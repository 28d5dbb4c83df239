use Rattle.std.proofs.Common.{◌≡◌, None, map, drop, option_map}
use Rattle.wh_naming.specs.View.{named_of}
use Rattle.wh_bind.specs.Steps.{gathered, joined_on}
use Rattle.wh_core_bind.specs.View.{joined_in, query_in}
use Rattle.wh_bind.specs.View.{join_part, core_reading}
use Rattle.wh_bind.proofs.binding.+bind.Given as goal

abbrev pub invariant-bind_cores-loop-core : goal.invariant-bind_cores-loop-core
invariant-bind_cores-loop-core l =
    gathered (map named_of l.names) l.next (option_map query_in l.so_far) (map core_reading (drop l.core-index l.cores))
    ≡ gathered (map named_of l.names) l.next None (map core_reading l.cores)

abbrev pub invariant-bind_joins-loop-place : goal.invariant-bind_joins-loop-place
invariant-bind_joins-loop-place l =
    joined_on (map named_of l.names) l.next (joined_in l.left) (map join_part (drop l.place l.joins))
    ≡ joined_on (map named_of l.names) l.next (joined_in l.initial.left) (map join_part l.joins)
