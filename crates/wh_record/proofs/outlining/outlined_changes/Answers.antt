use Rattle.std.proofs.Common.{List, subst, map}
use Rattle.std.specs.List.{AllByRecursion}
use Rattle.wh_state.specs.Spelling.{IsChange}
use Rattle.wh_record.specs.View.{UnderstoodChange, written_of}
use Rattle.wh_record.proofs.outlining.outlined_changes.Goals as goal

pub outlined_change-requires : goal.outlined_change-requires
outlined_change-requires c =
    let written = subst (λ (cs : List UnderstoodChange). AllByRecursion IsChange (map written_of cs))
    c.in-Some.ensures.steps.0 c.loop-change.invariant.written in
    written.0
