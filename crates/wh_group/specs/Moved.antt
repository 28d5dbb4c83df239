-- What the move of a group leaves. NumberOutOfRange comes only where an answer afterwards has none.
use Rattle.std.specs.Prelude.{◌≡◌, List, [], ◌++◌, Option, Some, None, Result, Ok, Err}
use Rattle.wh_value.specs.Value.{Value, Null, Row}
use Rattle.wh_meaning.specs.Query.{Call, Total}
use Rattle.wh_maintenance.specs.Standing.{Standing, answer, answers}
use Rattle.wh_aggregate.specs.Given.{IsFaultOf}
use Rattle.wh_scalar.specs.declared.fault.EvalFault.{EvalFault}

-- the answers of a group that is left
abbrev pub answers_left : List Call → Option Standing → Option Row
answers_left calls None = Some []
answers_left calls (Some s) = answers calls s.totals

abbrev pub LeavesGroup : Result (Option Standing) EvalFault → List Call → Option Standing → Type 0
LeavesGroup (Ok now) calls meant = now ≡ meant
LeavesGroup (Err fault) calls meant = IsFaultOf fault (answers_left calls meant)

abbrev pub LeavesTotals : Result Unit EvalFault → List Call → List Total → List Total → List Total → Type 0
LeavesTotals (Ok done) calls meant old new = new ≡ old ++ meant
LeavesTotals (Err fault) calls meant old new = IsFaultOf fault (answers calls meant)

-- a total that no call reads answers something
abbrev pub answer_by : Option Call → Total → Option Value
answer_by None t = Some Null
answer_by (Some call) t = answer call t

abbrev pub LeavesTotal : Result Total EvalFault → Option Call → Total → Type 0
LeavesTotal (Ok total) call meant = total ≡ meant
LeavesTotal (Err fault) call meant = IsFaultOf fault (answer_by call meant)
