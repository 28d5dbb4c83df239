-- By whose readings a script is carried out.
--     Timing             by the ticks of the script, or by the system's clock
--     with_readings      events with these readings, one after the other, in place of their own
--     timed              events by a timing
--     IsScriptBy         the events of a script by a timing
--     Times              the first event by a timing, and the timing of those behind it
use Rattle.std.specs.Prelude.{◌≡◌, ℕ, Bool, true, false, List, [], ◌∷◌, Option, Some, None, option_map}
use Rattle.std.specs.Prelude.{slice_index}
use Rattle.wh_machine.specs.Step.{Event, Command, Tick}
use Rattle.wh_machine.specs.Script.{IsScript}
use Rattle.wh_world.specs.Readings.{readings_after}

-- the readings of the clock, where they are told
pub data Timing : Type 0 where
  ByTicks : Timing
  ByClock : (readings : Option (List ℕ)) → Timing

-- whether the system's clock is asked for
abbrev pub timing_of : Bool → Option (List ℕ) → Timing
timing_of false readings = ByTicks
timing_of true readings = ByClock readings

-- ---- events

abbrev pub at_reading : ℕ → Event → Event
at_reading n (Command reading session request) = Command n session request
at_reading n (Tick reading) = Tick n

abbrev pub with_readings : List ℕ → List Event → List Event
with_readings rs [] = []
with_readings rs (e ∷ es) = at_reading (slice_index rs 0) e ∷ with_readings (readings_after rs) es

abbrev pub with_clock : Option (List ℕ) → Option (List Event) → Option (List Event)
with_clock None es = None
with_clock (Some rs) es = option_map (with_readings rs) es

-- where the system's clock is asked for, each event has its own reading of it
abbrev pub timed : Timing → Option (List Event) → Option (List Event)
timed ByTicks es = es
timed (ByClock readings) es = with_clock readings es

-- ---- a script

-- `ticked` are its events by the ticks
pub record IsScriptBy (t : Timing) (script : List ℕ) (es : List Event) : Type 0 where
  pub ticked : List Event
  pub spelled : IsScript script ticked
  pub read : timed t (Some ticked) ≡ Some es

-- ---- one event

abbrev pub Times : Timing → Timing → Event → Event → Type 0
Times t t_new event event_new = (es : List Event) →
    timed t (Some (event ∷ es)) ≡ option_map (λ (later : List Event). event_new ∷ later) (timed t_new (Some es))
