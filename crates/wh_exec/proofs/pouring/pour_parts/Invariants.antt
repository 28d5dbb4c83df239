use Rattle.std.proofs.Common.{take}
use Rattle.wh_exec.specs.Sink.{Takes}
use Rattle.wh_exec.proofs.PartLaws.{meant}
use Rattle.wh_exec.proofs.pouring.pour_parts.Given as goal

abbrev pub invariant-loop-part : goal.invariant-loop-part
invariant-loop-part g l = Takes l.initial.sink l.sink (meant l.steps (take l.part-index l.parts))
