use Rattle.std.proofs.Common.{◌≡◌, ◌++◌, map, take}
use Rattle.wh_ddl_naming.specs.Names.{names_at, all_names, join_names, core_names}
use Rattle.wh_ddl_naming.proofs.names.+names.Given as goal

abbrev pub invariant-add_cores-loop-core : goal.invariant-add_cores-loop-core
invariant-add_cores-loop-core l =
    names_at l.names.items ≡ names_at l.initial.names.items ++ all_names (map core_names (take l.core-index l.cores))

abbrev pub invariant-add_joins-loop-join : goal.invariant-add_joins-loop-join
invariant-add_joins-loop-join l =
    names_at l.names.items ≡ names_at l.initial.names.items ++ all_names (map join_names (take l.join-index l.joins))
