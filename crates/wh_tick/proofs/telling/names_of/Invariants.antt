use Rattle.std.proofs.Common.{◌≡◌, map, take}
use Rattle.wh_state.specs.Objects.{name_at}
use Rattle.wh_catalog.specs.Catalog.{state_of}
use Rattle.wh_tick.proofs.telling.names_of.Given as goal

abbrev pub invariant-loop-id : goal.invariant-loop-id
invariant-loop-id l = l.names.items ≡ map (name_at (state_of l.catalog).objects) (take l.id-index l.ids)
