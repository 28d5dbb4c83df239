-- What is decided on an event.
--     sessions_after, commit_in     what a settlement makes of the sessions, and the commit that it adds
--     answer_of, settlement_of      the reply of a decision, and what is carried out for it
--     StagesInOpen                  what is staged is staged in an open transaction
--     CanSettle                     a settlement can be carried out at a stamp
--     Decides                       a decision comes to that outcome
use Rattle.std.specs.Prelude.{◌≡◌, ℕ, List, Option, Some, None, option_map, unwrap_or, is_some, IsTrue}
use Rattle.wh_reply.specs.Reply.{Reply, Refused}
use Rattle.wh_reply.specs.View.{refusal_view, reply_view}
use Rattle.wh_state.specs.State.{State}
use Rattle.wh_state.specs.Act.{Act}
use Rattle.wh_state.specs.Stored.{Stored}
use Rattle.wh_state.specs.Commit.{Commit}
use Rattle.wh_state.specs.Written.{commit_for}
use Rattle.wh_machine.specs.Transaction.{Transaction, staged, begun}
use Rattle.wh_machine.specs.Sessions.{Sessions, transaction_in, with_transaction, with_begun, with_ended}
use Rattle.wh_machine.specs.Outcome.{Machine, Outcome, Refuses, Does}
use Rattle.wh_dml.specs.View.{effect_of}
use Rattle.wh_record.specs.View.{commit_of}
use Rattle.wh_txn.specs.Recording.{IsAt, IsRead}
use Rattle.wh_decide.specs.declared.decision.Decision.{Decision}
use Rattle.wh_decide.specs.declared.decision.Decision.TheVariants as decisions
use Rattle.wh_decide.specs.declared.decision.Settlement.{Settlement}
use Rattle.wh_decide.specs.declared.decision.Settlement.TheVariants as settlements

-- the machine over a state and the transactions that are open
abbrev pub machine_at : State → Sessions → Machine
machine_at state sessions = record { state = state; sessions = sessions }

-- ---- what becomes of the sessions, and of the file

abbrev pub transaction_or_new : Option Transaction → ℕ → Transaction
transaction_or_new found stamp = unwrap_or found (begun stamp)

abbrev pub sessions_after : ℕ → Sessions → Settlement → Sessions
sessions_after stamp sessions settlements.Answers = sessions
sessions_after stamp sessions (settlements.Commits commit) = sessions
sessions_after stamp sessions (settlements.Begins session) = with_begun sessions session stamp
sessions_after stamp sessions (settlements.Stages session id streams next_row effect) =
    with_transaction sessions session
    (staged (transaction_or_new (transaction_in sessions session) stamp) id streams.items next_row
    (effect_of effect))
sessions_after stamp sessions (settlements.Ends session commit) = with_ended sessions session

abbrev pub commit_in : Settlement → Option Commit
commit_in settlements.Answers = None
commit_in (settlements.Commits commit) = Some (commit_of commit)
commit_in (settlements.Begins session) = None
commit_in (settlements.Stages session id streams next_row effect) = None
commit_in (settlements.Ends session commit) = option_map commit_of commit

abbrev pub StagesInOpen : Sessions → Settlement → Type 0
StagesInOpen sessions (settlements.Stages session id streams next_row effect) =
    IsTrue (is_some (transaction_in sessions session))
StagesInOpen sessions _ = Unit {0}

-- whatever was read for it
pub record CanSettle (sessions : Sessions) (stamp : ℕ) (settlement : Settlement) : Type 0 where
  pub staged : StagesInOpen sessions settlement
  -- its commit is at the stamp, and its texts are understood
  pub timed : IsAt stamp (commit_in settlement)
  pub read : IsRead (commit_in settlement)

-- a refusal lets the stamp pass, and nothing else
abbrev pub answer_of : Decision → Reply
answer_of (decisions.Refuse why) = Refused (refusal_view why)
answer_of (decisions.Do reply settlement) = reply_view reply

abbrev pub settlement_of : Decision → Settlement
settlement_of (decisions.Refuse why) = settlements.Answers
settlement_of (decisions.Do reply settlement) = settlement

-- ---- the outcome, over what a file says and the transactions that are open, at a stamp

pub record IsDone (s : Stored) (sessions : Sessions) (stamp : ℕ) (reply : Reply) (settlement : Settlement)
    (outcome : Outcome) : Type 0 where
  -- of its commit, where it makes one
  pub acts : Option (List Act)
  pub does : outcome ≡ Does reply (sessions_after stamp sessions settlement) acts
  pub written : commit_in settlement ≡ option_map (commit_for s stamp) acts
  pub staged : StagesInOpen sessions settlement

abbrev pub Decides : Stored → Sessions → ℕ → Decision → Outcome → Type 0
Decides s sessions stamp (decisions.Refuse why) outcome = outcome ≡ Refuses (refusal_view why)
Decides s sessions stamp (decisions.Do reply settlement) outcome =
    IsDone s sessions stamp (reply_view reply) settlement outcome
