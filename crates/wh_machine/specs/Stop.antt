-- What a run that was stopped left.
--     whole_replies      how many replies stand whole in the bytes that were written
--     most_events        how many events may have been carried out by then
--     committed_after    the state that a file keeps after the first events
--     StandsWithin       an image stands for what was committed after some number of events,
--                        and is sound if the start was
use Rattle.std.specs.Prelude.{ℕ, ◌+◌, ◌-◌, ◌≤◌, min, List, [], ◌∷◌, length, take, nat_le, if◌then◌else◌}
use Rattle.wh_state.specs.State.{State}
use Rattle.wh_reply.specs.Reply.{print}
use Rattle.wh_machine.specs.Step.{Event, step, after}
use Rattle.wh_state.specs.File.{Stands}
use Rattle.wh_state.specs.Sound.{IsSoundFile}
use Rattle.wh_machine.specs.Outcome.{Machine, rest_of}
use Rattle.wh_machine.specs.Sound.{SoundMachine}

-- of the replies to these events, in so many bytes at the front of their text
abbrev pub whole_replies : Machine → List Event → ℕ → ℕ
whole_replies m [] written = 0
whole_replies m (e ∷ es) written =
    if nat_le (length (print (step m e).1)) written
    then 1 + whole_replies (step m e).0 es (written - length (print (step m e).1))
    else 0

-- those that were answered in full, and one more if there is one
abbrev pub most_events : Machine → List Event → ℕ → ℕ
most_events m es written = min (whole_replies m es written + 1) (length es)

abbrev pub committed_after : Machine → List Event → ℕ → State
committed_after m es count = rest_of (after m (take count es))

pub record StandsWithin (start : Machine) (es : List Event) (least most : ℕ) (image : List ℕ) : Type 0 where
  pub count : ℕ
  pub at_least : least ≤ count
  pub at_most : count ≤ most
  pub stands : Stands image (committed_after start es count)
  pub sound : SoundMachine start → IsSoundFile image
