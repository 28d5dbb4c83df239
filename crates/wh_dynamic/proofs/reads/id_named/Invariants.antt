use Rattle.std.proofs.Common.{◌≡◌, map, drop}
use Rattle.wh_state.specs.Dynamic.{id_named}
use Rattle.wh_dynamic.specs.View.{source_of}
use Rattle.wh_dynamic.proofs.reads.id_named.Given as goal

abbrev pub invariant-loop-source : goal.invariant-loop-source
invariant-loop-source l = id_named (map source_of (drop l.source-index l.sources)) l.name
    ≡ id_named (map source_of l.sources) l.name
