-- One event of the machine, and whole runs of events.
--     Event                     a command of a session, or a tick, each with its clock reading
--     outcome_of                what an event does at the machine's last stamp
--     step                      the machine after an event, and its reply
--     acts_of                   the acts of the commit that an event makes, where it makes one
--     after, text, refusals     the machine after events, the text of their replies, and how many are refusals
use Rattle.std.specs.Prelude.{ℕ, ◌+◌, max, Bool, ◌&&◌, List, [], ◌∷◌, ◌++◌, Option, None}
use Rattle.std.specs.Prelude.{nat_le, nat_lt, if◌then◌else◌}
use Rattle.wh_value.specs.Limit.{bound, last_session}
use Rattle.wh_value.specs.declared.limit.Limit.TheVariants as limits
use Rattle.wh_grammar.specs.Spelled.{Request, TooLong, Unreadable, Asked}
use Rattle.wh_reply.specs.Reply.{Reply, Refused, SyntaxError, NoSuchSession, OverLimit}
use Rattle.wh_reply.specs.Reply.{is_refusal, print}
use Rattle.wh_state.specs.State.{State, stamped}
use Rattle.wh_state.specs.Act.{Act}
use Rattle.wh_machine.specs.Outcome.{Machine, Outcome, Refuses, settled, acts_in}
use Rattle.wh_machine.specs.Statements.{carried_out_as, meant_in}
use Rattle.wh_machine.specs.Ticks.{ticked}

pub data Event : Type 0 where
  Command : (reading session : ℕ) → Request → Event
  Tick : (reading : ℕ) → Event

abbrev pub reading_of : Event → ℕ
reading_of (Command reading session request) = reading
reading_of (Tick reading) = reading

-- ---- what an event does: the state has the event's stamp as its last one

abbrev pub is_session : ℕ → Bool
is_session session = nat_le 1 session && nat_le session last_session

-- a command of a session
unfoldable pub commanded : Machine → ℕ → Request → Outcome
commanded m session TooLong = Refuses (OverLimit limits.Statement)
commanded m session Unreadable = Refuses SyntaxError
commanded m session (Asked tree) =
    if is_session session then carried_out_as m session (meant_in m tree) else Refuses (NoSuchSession session)

abbrev pub outcome_of : Machine → Event → Outcome
outcome_of m (Command reading session request) = commanded m session request
outcome_of m (Tick reading) = ticked m

-- ---- the step

abbrev pub stamp_of : State → ℕ → ℕ
stamp_of s reading = max reading (s.last + 1)

abbrev pub at_stamp : Machine → ℕ → Machine
at_stamp m stamp = record m { state = stamped m.state stamp }

-- a stamp that isn't below the limit is refused before any other test, and doesn't pass
abbrev pub has_stamp : Machine → Event → Bool
has_stamp m e = nat_lt (stamp_of m.state (reading_of e)) (bound limits.Stamp)

abbrev pub decided : Machine → Event → Outcome
decided m e = outcome_of (at_stamp m (stamp_of m.state (reading_of e))) e

unfoldable pub step : Machine → Event → Machine × Reply
step m e =
    if has_stamp m e then settled (at_stamp m (stamp_of m.state (reading_of e))) (decided m e)
    else (m, Refused (OverLimit limits.Stamp))

unfoldable pub acts_of : Machine → Event → Option (List Act)
acts_of m e = if has_stamp m e then acts_in (decided m e) else None

-- ---- runs

abbrev pub after : Machine → List Event → Machine
after m [] = m
after m (e ∷ es) = after (step m e).0 es

abbrev pub text : Machine → List Event → List ℕ
text m [] = []
text m (e ∷ es) = print (step m e).1 ++ text (step m e).0 es

abbrev pub refusals : Machine → List Event → ℕ
refusals m [] = 0
refusals m (e ∷ es) = (if is_refusal (step m e).1 then 1 else 0) + refusals (step m e).0 es
