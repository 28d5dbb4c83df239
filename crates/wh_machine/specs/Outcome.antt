-- The machine with its sessions, and what a statement or a tick does to it.
--     Machine                the committed state, and the open transactions
--     opened, rest_of        the machine of a file's state, and what a file keeps of a machine
--     Outcome                a refusal; or a reply, with the sessions that it leaves, and the acts of
--                            its commit where it makes one
--     answers, commits       a reply that leaves the sessions as they are
--     unless, last_test      an outcome behind a test, and before one
--     settled                the machine and the reply that an outcome comes to
use Rattle.std.specs.Prelude.{List, Option, Some, None}
use Rattle.wh_reply.specs.Reply.{Refusal, Reply, Refused}
use Rattle.wh_state.specs.State.{State, at_rest}
use Rattle.wh_state.specs.Act.{Act, done}
use Rattle.wh_machine.specs.Sessions.{Sessions, no_sessions}

pub record Machine : Type 0 where
  pub state : State
  pub sessions : Sessions

-- as a file that stands for that state is opened
abbrev pub opened : State → Machine
opened s = record { state = s; sessions = no_sessions }

-- what a file keeps of it: no open transaction, and the last stamp is that of the last commit
abbrev pub rest_of : Machine → State
rest_of m = at_rest m.state

pub data Outcome : Type 0 where
  Refuses : Refusal → Outcome
  Does : Reply → Sessions → Option (List Act) → Outcome

abbrev pub answers : Machine → Reply → Outcome
answers m reply = Does reply m.sessions None

abbrev pub commits : Machine → Reply → List Act → Outcome
commits m reply acts = Does reply m.sessions (Some acts)

abbrev pub unless : Option Refusal → Outcome → Outcome
unless (Some why) outcome = Refuses why
unless None outcome = outcome

-- a test behind all others of a statement
abbrev pub last_test : Option Refusal → Outcome → Outcome
last_test why (Refuses other) = Refuses other
last_test why (Does reply sessions acts) = unless why (Does reply sessions acts)

abbrev pub state_after : State → Option (List Act) → State
state_after s None = s
state_after s (Some acts) = done s acts

abbrev pub settled : Machine → Outcome → Machine × Reply
settled m (Refuses why) = (m, Refused why)
settled m (Does reply sessions acts) = (record { state = state_after m.state acts; sessions = sessions }, reply)

-- the acts of the commit that an outcome makes
abbrev pub acts_in : Outcome → Option (List Act)
acts_in (Refuses why) = None
acts_in (Does reply sessions acts) = acts
