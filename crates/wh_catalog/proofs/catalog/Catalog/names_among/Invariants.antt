use Rattle.std.proofs.Common.{◌≡◌, ◌++◌, map, drop}
use Rattle.wh_naming.specs.View.{named_of}
use Rattle.wh_state.specs.Bound.{names_among}
use Rattle.wh_dynamic.specs.View.{source_of}
use Rattle.wh_catalog.specs.Catalog.{objects_of}
use Rattle.wh_catalog.proofs.catalog.Catalog.names_among.Given as goal

abbrev pub invariant-loop-source : goal.invariant-loop-source
invariant-loop-source l =
    map named_of l.names.items ++ names_among (objects_of l.self) (map source_of (drop l.source-index l.sources))
    ≡ names_among (objects_of l.self) (map source_of l.sources)
