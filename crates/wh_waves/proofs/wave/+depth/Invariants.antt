use Rattle.std.proofs.Common.{length}
use Rattle.wh_waves.proofs.wave.+depth.Given as goal

abbrev pub decreases-depth : goal.decreases-depth
decreases-depth l = length l.waves.now
