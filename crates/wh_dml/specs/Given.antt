-- What a step gives.
--     Shows     what is meant, as a view of what is found, or the fault where nothing is meant
--     AddsTo    the same, where it is added to what is there
--     AddsTurns, AddsTurn, AddsSettled   the same for effects: of rows, of one row's turn, and
--                                        what rows come to in MERGE
use Rattle.std.specs.Prelude.{◌≡◌, ◌++◌, ℕ, List, Option, Some, option_map, Result, Ok, Err}
use Rattle.wh_scalar.specs.declared.fault.EvalFault.{EvalFault}
use Rattle.wh_aggregate.specs.Given.{IsFaultOf}
use Rattle.wh_effect.specs.Effect.{Effect, Turn}
use Rattle.wh_dml.specs.Steps.{before, done_by, Settled, after}

abbrev pub Shows : {A B : Type 0} → (A → B) → Result A EvalFault → Option B → Type 0
Shows view (Ok found) meant = meant ≡ Some (view found)
Shows view (Err fault) meant = IsFaultOf fault meant

abbrev pub AddsTo : {A B : Type 0} → Result A EvalFault → List B → List B → Option (List B) → Type 0
AddsTo (Ok done) before after meant = option_map (λ more. before ++ more) meant ≡ Some after
AddsTo (Err fault) before after meant = IsFaultOf fault meant

abbrev pub AddsTurns : {A : Type 0} → Result A EvalFault → Effect → Effect → Option Effect → Type 0
AddsTurns (Ok done) old new meant = option_map (λ more. before old more) meant ≡ Some new
AddsTurns (Err fault) old new meant = IsFaultOf fault meant

abbrev pub AddsTurn : {A : Type 0} → Result A EvalFault → Effect → Effect → ℕ → Option Turn → Type 0
AddsTurn result old new number turn = AddsTurns result old new (option_map (done_by number) turn)

abbrev pub AddsSettled : {A : Type 0} → Result A EvalFault → Settled → Settled → Option Settled → Type 0
AddsSettled (Ok done) old new meant = option_map (λ more. after old more) meant ≡ Some new
AddsSettled (Err fault) old new meant = IsFaultOf fault meant
