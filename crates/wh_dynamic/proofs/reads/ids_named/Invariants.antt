use Rattle.std.proofs.Common.{◌≡◌, map, take}
use Rattle.wh_state.specs.Dynamic.{id_named}
use Rattle.wh_ddl_naming.specs.Names.{names_at}
use Rattle.wh_dynamic.specs.View.{source_of}
use Rattle.wh_dynamic.proofs.reads.ids_named.Given as goal

abbrev pub invariant-loop-name : goal.invariant-loop-name
invariant-loop-name l = l.ids.items ≡ map (id_named (map source_of l.sources)) (names_at (take l.name-index l.names))
