use Rattle.std.proofs.Common.{take}
use Rattle.std.specs.List.{AllZip}
use Rattle.std.specs.Fn.{FnReturnsAt}
use Rattle.std.specs.Arc.{arc_value}
use Rattle.wh_workers.proofs.parts.in_turn.Given as goal

abbrev pub invariant-loop-part : goal.invariant-loop-part
invariant-loop-part g l =
    AllZip (λ part answer. FnReturnsAt g.F.Fn l.f (arc_value part) answer) (take l.part-index l.parts) l.answers.items
