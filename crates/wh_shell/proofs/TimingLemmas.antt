-- Events by a timing.
--     timed_gives, timed_ends      the first of them, and none
--     ticks_time, clock_times      how the first event is timed
use Rattle.std.proofs.Common.{◌≡◌, ℕ, Bool, true, false, List, [], ◌∷◌, Option, Some, None, refl, sym, ap, ◌∙◌, option_map}
use Rattle.std.specs.Prelude.{slice_index}
use Rattle.wh_machine.specs.Step.{Event}
use Rattle.wh_world.specs.Readings.{readings_after}
use Rattle.wh_shell.specs.Reading.{GivesEvent, EndsEvents}
use Rattle.wh_shell.specs.Timing.{timing_of, at_reading, timed, Times}

-- timed events are some
known : (system : Bool) (readings : Option (List ℕ)) (left : Option (List Event)) (es : List Event) →
    timed (timing_of system readings) left ≡ Some es →
    (us : List Event) × (left ≡ Some us) × (timed (timing_of system readings) (Some us) ≡ Some es)
known false readings None es told = cc
known false readings (Some us) es told = (us, refl, told)
known true None left es told = cc
known true (Some rs) None es told = cc
known true (Some rs) (Some us) es told = (us, refl, told)

later_of : (event : Event) (later : Option (List Event)) (es : List Event) →
    option_map (λ (l : List Event). event ∷ l) later ≡ Some es →
    (rest : List Event) × (later ≡ Some rest) × (es ≡ event ∷ rest)
later_of event None es told = cc
later_of event (Some rest) es told = (rest, refl, cc)

pub timed_gives : (system : Bool) (readings readings_new : Option (List ℕ)) (left left_new : Option (List Event))
    (event event_new : Event) → GivesEvent left event left_new →
    Times (timing_of system readings) (timing_of system readings_new) event event_new →
    GivesEvent (timed (timing_of system readings) left) event_new (timed (timing_of system readings_new) left_new)
timed_gives system readings readings_new left left_new event event_new gives times = record {
  each = λ es told.
      let old = timing_of system readings in
      let new = timing_of system readings_new in
      let all = known system readings left es told in
      let found = gives.each all.0 all.1 in
      let one : timed old (Some (event ∷ found.0)) ≡ Some es =
      ap (λ (us : List Event). timed old (Some us)) (sym found.2) ∙ all.2 in
      let behind = later_of event_new (timed new (Some found.0)) es (sym (times found.0) ∙ one) in
      (behind.0, ap (timed new) found.1 ∙ behind.1, behind.2);
}

-- no event has no reading
none_timed : (system : Bool) (readings : Option (List ℕ)) (es : List Event) →
    timed (timing_of system readings) (Some []) ≡ Some es →
    (timed (timing_of system readings) (Some []) ≡ Some []) × (es ≡ [])
none_timed false readings es told = (refl, cc)
none_timed true None es told = cc
none_timed true (Some rs) es told = (refl, cc)

pub timed_ends : (system : Bool) (readings : Option (List ℕ)) (left left_new : Option (List Event))
    (left_source : Option (List ℕ)) → EndsEvents left left_new left_source →
    EndsEvents (timed (timing_of system readings) left) (timed (timing_of system readings) left_new) left_source
timed_ends system readings left left_new left_source ends = record {
  each = λ es told.
      let by = timing_of system readings in
      let all = known system readings left es told in
      let found = ends.each all.0 all.1 in
      let none = none_timed system readings es (ap (λ (us : List Event). timed by (Some us)) (sym found.2) ∙ all.2) in
      (ap (timed by) found.0 ∙ none.0, found.1, none.1);
}

-- ---- one event

-- by the ticks it is as it was
pub ticks_time : (readings : Option (List ℕ)) (event : Event) →
    Times (timing_of false readings) (timing_of false readings) event event
ticks_time readings event es = refl

-- by the clock it has the first reading, and those behind it have the others
pub clock_times : (readings readings_new : Option (List ℕ)) (event : Event) (reading : ℕ) →
    ((rs : List ℕ) → readings ≡ Some rs → reading ≡ slice_index rs 0) →
    readings_new ≡ option_map readings_after readings →
    Times (timing_of true readings) (timing_of true readings_new) event (at_reading reading event)
clock_times None readings_new event reading first others es = rw others refl
clock_times (Some rs) readings_new event reading first others es = rw (others, first rs refl) refl
