use Rattle.std.proofs.Common.{◌≡◌, map, take}
use Rattle.wh_naming.specs.View.{named_of}
use Rattle.wh_state.specs.Bound.{names_among}
use Rattle.wh_dynamic.specs.View.{source_of}
use Rattle.wh_refresh.specs.Objects.{objects_in}
use Rattle.wh_refresh.proofs.evaluation.names_among.Given as goal

abbrev pub invariant-loop-source : goal.invariant-loop-source
invariant-loop-source l =
    map named_of l.names.items ≡ names_among (objects_in l.objects) (map source_of (take l.source-index l.sources))
