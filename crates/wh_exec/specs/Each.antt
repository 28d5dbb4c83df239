-- What is answered for each of several rows.
--     SaysEach                 an answer for each row, in order; out of range only where that is an answer for some row
--     AnswersEach              the answers of a function
--     TellsEach, GivesEach     whether a scalar is TRUE on each row, and the row of scalars' values
use Rattle.std.specs.Prelude.{Bool, List, Result, Ok, Err, Vec}
use Rattle.std.specs.List.{AllZip, Contains}
use Rattle.std.specs.Global.{Global}
use Rattle.std.specs.Fn.{Shared, FnReturnsAt}
use denote.Ref.{Bor}
use Rattle.wh_value.specs.Value.{Row}
use Rattle.wh_meaning.specs.Scalar.{Scalar, val}
use Rattle.wh_meaning.specs.Query.{values_on}
use Rattle.wh_scalar.specs.View.{Tells}
use Rattle.wh_scalar.specs.declared.fault.EvalFault.{EvalFault}
use Rattle.wh_scalar.specs.declared.fault.EvalFault.TheVariants.{NumberOutOfRange, OutOfMemory}
use Rattle.wh_algebra.specs.declared.tuple.Tuple.{Tuple}
use Rattle.wh_algebra.specs.Tuple.{row_in}
use Rattle.wh_aggregate.specs.Given.{Gives}

abbrev pub SaysEach : {T : Type 0} → (Tuple → Result T EvalFault → Type 0) → List Tuple
    → Result (Vec T Global) EvalFault → Type 0
SaysEach R tuples (Ok answers) = AllZip (λ tuple answer. R tuple (Ok answer)) tuples answers.items
SaysEach R tuples (Err NumberOutOfRange) = (tuple : Tuple) × Contains tuples tuple × R tuple (Err NumberOutOfRange)
SaysEach R tuples (Err OutOfMemory) = Unit {0}

abbrev pub AnswersEach : {F T : Type 0} → Shared F (Bor Row × Unit {0}) (Result T EvalFault) → F → List Tuple
    → Result (Vec T Global) EvalFault → Type 0
AnswersEach g f tuples result = SaysEach (λ tuple answer. FnReturnsAt g f (row_in tuple) answer) tuples result

abbrev pub TellsEach : Result (Vec Bool Global) EvalFault → Scalar → List Tuple → Type 0
TellsEach result scalar tuples = SaysEach (λ tuple told. Tells told (val scalar (row_in tuple))) tuples result

abbrev pub GivesEach : Result (Vec Row Global) EvalFault → List Scalar → List Tuple → Type 0
GivesEach result scalars tuples = SaysEach (λ tuple given. Gives given (values_on scalars (row_in tuple))) tuples result
