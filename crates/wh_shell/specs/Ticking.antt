-- How many readings are taken of a clock.
--     Takes          so many, and none where the system's clock isn't asked for
--     TakesOf        one for each event that was read
--     TakesSoFar     so by the turns so far
--     TakesTurn      by one turn
--     TakesFor       of a run: one for each of its events, and at a stop no more than that
use Rattle.std.specs.Prelude.{◌≡◌, ℕ, zero, suc, ◌+◌, ◌≤◌, Bool, true, false, List, [], length}
use Rattle.std.specs.Prelude.{Option, Some, None, option_map}
use Rattle.std.specs.Prelude.{Result, Ok, Err}
use Rattle.wh_machine.specs.Step.{Event}
use Rattle.wh_world.specs.Readings.{readings_after}
use Rattle.wh_world.specs.declared.clock.Clock.{Ghosts}
use Rattle.wh_shell.specs.declared.status.Status.{Status}
use Rattle.wh_shell.specs.declared.status.Status.TheVariants.{Usage, Read, Stopped}

abbrev pub readings_behind : ℕ → List ℕ → List ℕ
readings_behind zero rs = rs
readings_behind (suc n) rs = readings_behind n (readings_after rs)

pub record Takes {C : Type 0} (c : Ghosts C) (system : Bool) (count : ℕ) (old new : C) : Type 0 where
  pub untouched : system ≡ false → new ≡ old
  pub taken : system ≡ true → c.readings new ≡ option_map (readings_behind count) (c.readings old)

-- one for each event that was read, of those that were left
pub record TakesOf {C : Type 0} (c : Ghosts C) (system : Bool) (count : ℕ) (left left_now : Option (List Event))
    (old now : C) : Type 0 where
  pub takes : Takes c system count old now
  pub each : (es : List Event) → left ≡ Some es →
      (rest : List Event) × (left_now ≡ Some rest) × (length es ≡ count + length rest)

abbrev pub TakesSoFar : {C : Type 0} → Ghosts C → Bool → Option (List Event) → Option (List Event) → C → C → Type 0
TakesSoFar c system left left_now old now = (count : ℕ) × TakesOf c system count left left_now old now

-- the event that was read may not have been carried out
pub record TakesAtMost {C : Type 0} (c : Ghosts C) (system : Bool) (left : Option (List Event))
    (old new : C) : Type 0 where
  pub count : ℕ
  pub takes : Takes c system count old new
  pub most : (es : List Event) → left ≡ Some es → count ≤ length es

-- none where no event was left
abbrev pub TakesTurn : {C A E : Type 0} → Ghosts C → Bool → Option (List Event) → Option (List Event) →
    Result (Option A) E → C → C → Type 0
TakesTurn c system left left_new (Ok None) old new = (new ≡ old) × ((es : List Event) → left ≡ Some es → es ≡ [])
TakesTurn c system left left_new (Ok (Some a)) old new = TakesOf c system 1 left left_new old new
TakesTurn c system left left_new (Err e) old new = TakesAtMost c system left old new

-- of so many events
abbrev pub IsCountBy : Status → ℕ → ℕ → Type 0
IsCountBy Usage count all = count ≡ 0
IsCountBy (Read refusals) count all = count ≡ all
IsCountBy (Stopped why) count all = count ≤ all

pub record TakesFor {C : Type 0} (c : Ghosts C) (system : Bool) (left : Option (List Event)) (status : Status)
    (old new : C) : Type 0 where
  pub count : ℕ
  pub takes : Takes c system count old new
  pub each : system ≡ true → (es : List Event) → left ≡ Some es → IsCountBy status count (length es)
