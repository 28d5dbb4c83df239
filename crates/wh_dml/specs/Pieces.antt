-- What pieces of a target come to.
--     ShowsOn           what is meant of a piece's rows, or the fault where nothing is
--     AnswersTurned     a function answers of any piece the turns of its rows, or the fault
--     AreOn             the answers of pieces that side by side are the target, in order
use Rattle.std.specs.Prelude.{◌≡◌, ℕ, List, Option, Result}
use Rattle.std.specs.List.{AllZip, flat_map}
use Rattle.std.specs.Fn.{Shared, FnReturnsAt}
use denote.Ref.{Bor}
use Rattle.wh_value.specs.Value.{Row}
use Rattle.wh_frame.specs.Partition.{Partition}
use Rattle.wh_scalar.specs.declared.fault.EvalFault.{EvalFault}
use Rattle.wh_effect.specs.Effect.{Turn, turned}
use Rattle.wh_dml.specs.declared.target.Effect.{Effect}
use Rattle.wh_dml.specs.View.{effect_of, targets_of}
use Rattle.wh_dml.specs.Given.{Shows}

module _ {T A : Type 0} (view : T → A) (meant : List (ℕ × Row) → Option A) where
  abbrev pub ShowsOn : List (Bor Partition) → Result T EvalFault → Type 0
  ShowsOn piece answer = Shows view answer (meant (targets_of piece))

  abbrev pub AreOn : List (Bor Partition) → List (Result T EvalFault) → Type 0
  AreOn target found = (pieces : List (List (Bor Partition)))
      × (flat_map (λ piece. piece) pieces ≡ target) × AllZip ShowsOn pieces found

abbrev pub AnswersTurned : {F : Type 0} → Shared F (Bor (List (Bor Partition)) × Unit {0}) (Result Effect EvalFault)
    → F → (Row → Option Turn) → Type 0
AnswersTurned g f turn = (piece : List (Bor Partition)) (answer : Result Effect EvalFault)
    → FnReturnsAt g f piece answer → ShowsOn effect_of (turned turn) piece answer
