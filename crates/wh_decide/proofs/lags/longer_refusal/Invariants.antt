use Rattle.std.proofs.Common.{◌≡◌, drop}
use Rattle.wh_machine.specs.Dynamics.{first_longer}
use Rattle.wh_catalog.specs.Catalog.{state_of}
use Rattle.wh_decide.proofs.lags.longer_refusal.Given as goal

abbrev pub invariant-loop-id : goal.invariant-loop-id
invariant-loop-id l =
    first_longer (state_of l.catalog).objects l.name l.lag (drop l.id-index l.ids)
    ≡ first_longer (state_of l.catalog).objects l.name l.lag l.ids
