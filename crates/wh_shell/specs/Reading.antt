-- What contracts say of a `Reader`.
--     unread            the events that are still to be read, where the source is told
--     awaited           the same by a timing
--     GivesEvent        the first of them was read
--     EndsEvents        none was left, and the source has nothing left
--     Gives             so by what was found
--     PassesOn          they are the same still
--     Turns             what a line asks for, and what is asked for behind it
--     FailsBy           why no event could be read
--     Reads             how far a turn that found an event, or none, has read
use Rattle.std.specs.Prelude.{◌≡◌, ◌<◌, ◌^◌, ℕ, Bool, List, [], ◌∷◌, Option, Some, None, option_map}
use Rattle.std.specs.Prelude.{Result, IfOk, OnOk, IsErrOf, IfSome}
use Rattle.wh_grammar.specs.Script.{Line, lines_of}
use Rattle.wh_machine.specs.Step as machine
use Rattle.wh_text.specs.Turn.{ahead_and}
use Rattle.wh_text.specs.Script.{ahead_of, taken_of, consumed_of, fault_of, Counts}
use Rattle.wh_text.specs.declared.script.Script.{Script}
use Rattle.wh_text.specs.declared.fault.ScriptFault.{ScriptFault}
use Rattle.wh_text.specs.declared.fault.ScriptFault.TheVariants.{OutOfMemory, Read, TooLong}
use Rattle.wh_decide.specs.Event.{event_of}
use Rattle.wh_decide.specs.declared.event.Event.{Event}
use Rattle.wh_shell.specs.Events.{events_from}
use Rattle.wh_shell.specs.Timing.{timing_of, timed}
use Rattle.wh_shell.specs.declared.reader.Reader.{Reader}

abbrev pub unread : Reader → Option (List ℕ) → Option (List machine.Event)
unread reader left =
    option_map (λ bytes. events_from reader.session reader.reading (lines_of bytes))
    (ahead_and (ahead_of reader.script) left)

abbrev pub awaited : Bool → Option (List ℕ) → Reader → Option (List ℕ) → Option (List machine.Event)
awaited system readings reader left = timed (timing_of system readings) (unread reader left)

pub record GivesEvent (old : Option (List machine.Event)) (event : machine.Event)
    (new : Option (List machine.Event)) : Type 0 where
  pub each : (es : List machine.Event) → old ≡ Some es →
      (rest : List machine.Event) × (new ≡ Some rest) × (es ≡ event ∷ rest)

pub record EndsEvents (old new : Option (List machine.Event)) (left_new : Option (List ℕ)) : Type 0 where
  pub each : (es : List machine.Event) → old ≡ Some es → (new ≡ Some []) × (left_new ≡ Some []) × (es ≡ [])

abbrev pub Gives : Option (List machine.Event) → Option (List machine.Event) → Option (List ℕ) → Option Event → Type 0
Gives old new left_new None = EndsEvents old new left_new
Gives old new left_new (Some event) = GivesEvent old (event_of event) new

pub record PassesOn (old new : Option (List machine.Event)) : Type 0 where
  pub each : (es : List machine.Event) → old ≡ Some es → new ≡ Some es

-- in front of any others, from one session and reading to the next
abbrev pub Turns : ℕ → ℕ → Line → Option Event → ℕ → ℕ → Type 0
Turns session reading line None session_new reading_new =
    (lines : List Line) → events_from session reading (line ∷ lines) ≡ events_from session_new reading_new lines
Turns session reading line (Some event) session_new reading_new =
    (lines : List Line) →
    events_from session reading (line ∷ lines) ≡ event_of event ∷ events_from session_new reading_new lines

-- the source failed, or more than 2^30 bytes were taken, and that many
abbrev pub FailsBy : Type 0 → Script → ScriptFault → Type 0
FailsBy failed new OutOfMemory = Unit {0}
FailsBy failed new Read = failed
FailsBy failed new (TooLong taken) = (2 ^ 30 < taken) × (taken ≡ taken_of new)

-- an event used some byte, all bytes that the source lost were counted, and where they are too many, that is the fault
pub record Reads {A E : Type 0} (old new : Script) (left left_new : Option (List ℕ)) (result : Result (Option A) E)
    (too_long : ℕ → E) : Type 0 where
  pub goes : OnOk result (fault_of new ≡ None)
  pub progress : IfOk result (λ found. IfSome found (λ a. consumed_of old < consumed_of new))
  pub counts : Counts old new left left_new
  pub taken : (taken : ℕ) → IsErrOf result (too_long taken) → (2 ^ 30 < taken) × (taken ≡ taken_of new)
  pub long : 2 ^ 30 < taken_of new → IsErrOf result (too_long (taken_of new))
