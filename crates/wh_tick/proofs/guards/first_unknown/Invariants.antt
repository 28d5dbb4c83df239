use Rattle.std.proofs.Common.{◌≡◌, drop, map}
use Rattle.wh_ddl_naming.specs.Names.{names_at}
use Rattle.wh_machine.specs.Tests.{first_of}
use Rattle.wh_machine.specs.Ticks.{unknown_in}
use Rattle.wh_catalog.specs.Catalog.{state_of}
use Rattle.wh_tick.proofs.guards.first_unknown.Given as goal

abbrev pub invariant-loop-name : goal.invariant-loop-name
invariant-loop-name l =
    first_of (map (unknown_in (state_of l.catalog).objects) (names_at (drop l.name-index l.names)))
    ≡ first_of (map (unknown_in (state_of l.catalog).objects) (names_at l.names))
