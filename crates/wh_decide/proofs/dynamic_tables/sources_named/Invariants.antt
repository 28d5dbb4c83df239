use Rattle.std.proofs.Common.{◌≡◌, ◌++◌, map, drop}
use Rattle.wh_ddl_naming.specs.Names.{names_at}
use Rattle.wh_dynamic.specs.View.{source_of}
use Rattle.wh_machine.specs.Dynamics.{sources_named}
use Rattle.wh_decide.proofs.dynamic_tables.sources_named.Given as goal

abbrev pub invariant-loop-name : goal.invariant-loop-name
invariant-loop-name l =
    map source_of l.sources.items ++ sources_named (names_at (drop l.name-index l.names)) (drop l.place l.ids)
    ≡ sources_named (names_at l.names) l.ids
