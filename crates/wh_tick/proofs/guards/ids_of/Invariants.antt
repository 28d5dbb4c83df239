use Rattle.std.proofs.Common.{◌≡◌, take}
use Rattle.wh_ddl_naming.specs.Names.{names_at}
use Rattle.wh_catalog.specs.Catalog.{state_of}
use Rattle.wh_tick.specs.Guards.{ids_told}
use Rattle.wh_tick.proofs.guards.ids_of.Given as goal

abbrev pub invariant-loop-name : goal.invariant-loop-name
invariant-loop-name l =
    l.ids.items ≡ ids_told (state_of l.catalog).objects (names_at (take l.name-index l.names))
