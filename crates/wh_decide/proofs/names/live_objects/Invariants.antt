use Rattle.std.proofs.Common.{◌≡◌, map, take}
use Rattle.wh_naming.specs.View.{named_of}
use Rattle.wh_ddl_naming.specs.Names.{names_at, looked_up}
use Rattle.wh_machine.specs.Names.{names_from}
use Rattle.wh_catalog.specs.Catalog.{state_of}
use Rattle.wh_decide.proofs.names.live_objects.Given as goal

abbrev pub invariant-loop-name : goal.invariant-loop-name
invariant-loop-name l =
    map named_of l.objects.items
    ≡ looked_up (names_from 1 (state_of l.catalog).objects) (names_at (take l.name-index l.names))
