-- The events of a script, as a function: the same that the relation `IsScript` of wh_sessions gives it (`Laws.antt`).
--     events_from     the events of lines, from a session and a reading on
--     events          those of a script
use Rattle.std.specs.Prelude.{ℕ, List, [], ◌∷◌, Some, None}
use Rattle.wh_grammar.specs.Script.{Line, CommandLine, SessionLine, TickLine, lines_of}
use Rattle.wh_machine.specs.Step.{Event, Tick}
use Rattle.wh_decide.specs.Event.{command}

-- a session's line sets the session, and a tick's number the reading
abbrev pub events_from : ℕ → ℕ → List Line → List Event
events_from session reading [] = []
events_from session reading (CommandLine text ∷ lines) =
    command reading session text ∷ events_from session reading lines
events_from session reading (SessionLine n ∷ lines) = events_from n reading lines
events_from session reading (TickLine None ∷ lines) = Tick reading ∷ events_from session reading lines
events_from session reading (TickLine (Some n) ∷ lines) = Tick n ∷ events_from session n lines

-- the session is 1 at first, and the reading 0
abbrev pub events : List ℕ → List Event
events script = events_from 1 0 (lines_of script)
