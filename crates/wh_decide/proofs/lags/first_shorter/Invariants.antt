use Rattle.std.proofs.Common.{◌≡◌, ◌+◌, drop}
use Rattle.wh_moment.specs.Moment.{ids_from}
use Rattle.wh_machine.specs.Dynamics as machine
use Rattle.wh_catalog.specs.Catalog.{state_of}
use Rattle.wh_decide.proofs.lags.first_shorter.Given as goal

abbrev pub invariant-loop-table : goal.invariant-loop-table
invariant-loop-table l =
    (machine.first_shorter (state_of l.catalog).objects l.id l.lag (ids_from (l.above + 1) (drop l._table-index l.all))
    ≡ machine.first_shorter (state_of l.catalog).objects l.id l.lag (ids_from 1 l.all)) × (l.above ≡ l._table-index)
