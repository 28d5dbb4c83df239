-- What an event may come to.
--     event_moves     the streams whose offsets it may move
--     lawful          what it does is lawful
use Rattle.std.proofs.Common.{ℕ, List, [], option_map}
use Rattle.wh_value.specs.declared.limit.Limit.TheVariants as limits
use Rattle.wh_grammar.specs.Spelled.{Request, TooLong, Unreadable, Asked}
use Rattle.wh_ddl_naming.specs.Meant.{first_failing}
use Rattle.wh_reply.specs.Reply.{SyntaxError, NoSuchSession, OverLimit}
use Rattle.wh_machine.specs.Names.{refusal_of}
use Rattle.wh_machine.specs.Outcome.{Machine}
use Rattle.wh_machine.specs.Statements.{meant_in}
use Rattle.wh_machine.specs.Step.{Event, Command, Tick, is_session, commanded, outcome_of}
use Rattle.wh_machine.proofs.Lawful.{IsLawful, refuses, either}
use Rattle.wh_machine.proofs.OutcomeLaws.{moved_by, statement}
use Rattle.wh_machine.proofs.TaskLaws.{tick_moves, tick_lawful}

abbrev pub request_moves : Machine → ℕ → Request → List ℕ
request_moves m session (Asked tree) = moved_by m session (meant_in m tree).value
request_moves m session _ = []

-- and an event
abbrev pub event_moves : Machine → Event → List ℕ
event_moves m (Command reading session request) = request_moves m session request
event_moves m (Tick reading) = tick_moves m

command : (m : Machine) (session : ℕ) (request : Request)
    → IsLawful m (request_moves m session request) (commanded m session request)
unfolding commanded
command m session TooLong = refuses m (OverLimit limits.Statement)
command m session Unreadable = refuses m SyntaxError
command m session (Asked tree) =
    either m (is_session session) _ _
    (statement m session (option_map refusal_of (first_failing (meant_in m tree))) (meant_in m tree).value)
    (refuses m (NoSuchSession session))

pub lawful : (m : Machine) (e : Event) → IsLawful m (event_moves m e) (outcome_of m e)
lawful m (Command reading session request) = command m session request
lawful m (Tick reading) = tick_lawful m
