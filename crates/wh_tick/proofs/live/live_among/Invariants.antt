use Rattle.std.proofs.Common.{◌≡◌, ◌+◌, ◌++◌, map, drop}
use Rattle.wh_naming.specs.View.{named_of}
use Rattle.wh_machine.specs.Names.{names_from}
use Rattle.wh_catalog.specs.Object.{object_of}
use Rattle.wh_tick.proofs.live.live_among.Given as goal

abbrev pub invariant-loop-object : goal.invariant-loop-object
invariant-loop-object l =
    (map named_of l.names.items ++ names_from (l.id + 1) (map object_of (drop l.object-index l.objects))
    ≡ names_from 1 (map object_of l.objects)) × (l.id ≡ l.object-index)
