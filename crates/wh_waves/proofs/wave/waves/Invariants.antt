use Rattle.std.proofs.Common.{◌≡◌, [], drop}
use Rattle.wh_waves.specs.Waves.{waves_behind}
use Rattle.wh_dynamic.specs.View.{dynamics_in}
use Rattle.wh_waves.specs.Waves.{waves_in}
use Rattle.wh_waves.proofs.wave.waves.Given as goal

-- the ids that are left are put behind those so far
abbrev pub invariant-loop-id : goal.invariant-loop-id
invariant-loop-id l = waves_behind (dynamics_in l.all) (waves_in l.waves.items) (drop l.id-index l.ids)
    ≡ waves_behind (dynamics_in l.all) [] l.ids
