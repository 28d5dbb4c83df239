-- The events of a script.
--     HasEvents      the events of lines, from a session and a reading on
--     IsScript       the events of a script
use Rattle.std.specs.Prelude.{ℕ, List, [], ◌∷◌, Some, None}
use Rattle.wh_grammar.specs.Spelled.{Request, Asks}
use Rattle.wh_grammar.specs.Script.{Line, CommandLine, SessionLine, TickLine, lines_of}
use Rattle.wh_machine.specs.Step.{Event, Command, Tick}

-- A session's line sets the session of the commands behind it. The reading of an event is the number
-- of the last tick that has one.
pub data HasEvents : ℕ → ℕ → List Line → List Event → Type 0 where
  ends : {session reading : ℕ} → HasEvents session reading [] []
  sets_session : {session reading n : ℕ} {lines : List Line} {events : List Event}
      → HasEvents n reading lines events
      → HasEvents session reading (SessionLine n ∷ lines) events
  ticks : {session reading : ℕ} {lines : List Line} {events : List Event}
      → HasEvents session reading lines events
      → HasEvents session reading (TickLine None ∷ lines) (Tick reading ∷ events)
  ticks_at : {session reading n : ℕ} {lines : List Line} {events : List Event}
      → HasEvents session n lines events
      → HasEvents session reading (TickLine (Some n) ∷ lines) (Tick n ∷ events)
  commands : {session reading : ℕ} {text : List ℕ} {request : Request} {lines : List Line} {events : List Event}
      → Asks text request
      → HasEvents session reading lines events
      → HasEvents session reading (CommandLine text ∷ lines) (Command reading session request ∷ events)

-- the session is 1 at first, and the reading 0
abbrev pub IsScript : List ℕ → List Event → Type 0
IsScript script events = HasEvents 1 0 (lines_of script) events
