-- The machine's events that events of the code stand for.
use Rattle.std.specs.Prelude.{ℕ, List}
use Rattle.wh_machine.specs.Step as machine
use Rattle.wh_stmt_parse.specs.Request.{request_of}
use Rattle.wh_decide.specs.declared.event.Event.{Event}
use Rattle.wh_decide.specs.declared.event.Event.TheVariants.{Command, Tick}

-- a command's text, as what it asks for
abbrev pub command : ℕ → ℕ → List ℕ → machine.Event
command reading session text = machine.Command reading session (request_of text)

abbrev pub event_of : Event → machine.Event
event_of (Command reading session text) = command reading session text
event_of (Tick reading) = machine.Tick reading
