use Rattle.std.proofs.Common.{[], drop}
use Rattle.wh_world.specs.Logged.{events}
use Rattle.wh_world.proofs.Imaged.{Walks}
use Rattle.wh_world.proofs.imaging.image_of.Given as goal

abbrev pub invariant-loop-call : goal.invariant-loop-call
invariant-loop-call l =
    Walks l.first l.image.items l.rest (drop l.call-index l.log) l.syncs l.cut l.tear.cut l.tear.fill
    (events [] l.log l.pieces)
