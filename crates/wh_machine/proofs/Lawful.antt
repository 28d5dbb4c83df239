-- What holds of what an event may come to.
--     IsLawful               of the reply, of the sessions and of the acts of an outcome
--     refuses, does          refusals and replies
--     tested, tested_last    behind a test, and before one
use Rattle.std.proofs.Common.{◌≡◌, ℕ, ◌-◌, ◌≤◌, Bool, true, false, cond, List}
use Rattle.std.proofs.Common.{Option, Some, None, refl}
use Rattle.std.specs.Prelude.{IsTrue, nat_eq}
use Rattle.std.specs.List.{AllByRecursion, list_any}
use Rattle.wh_reply.specs.Reply.{Refusal, Reply}
use Rattle.wh_reply.specs.Reply.{is_refusal}
use Rattle.wh_state.specs.State.{State, Stream}
use Rattle.wh_state.specs.Act.{Act, MovesOffset, RefreshesRows}
use Rattle.wh_state.specs.Act.{all_acted}
use Rattle.wh_state.specs.Objects.{stream_at}
use Rattle.wh_state.proofs.ActLaws.{AreEditsFrom}
use Rattle.wh_machine.specs.Sessions.{Sessions, number_in}
use Rattle.wh_machine.specs.Outcome.{Machine, Outcome, Refuses, Does, answers, unless, last_test}
use Rattle.wh_machine.specs.Outcome.{settled, acts_in}
use Rattle.wh_machine.specs.Sound.{AreBegun}
use Rattle.wh_machine.specs.Consuming.{reads, AreApart, base_at}

-- the sessions that an outcome leaves, where the open transactions of a machine began by its last stamp, and where no
-- two of them hold one stream
pub record KeepsSessions (m : Machine) (sessions : Sessions) : Type 0 where
  pub begun : AreBegun m.state.last m.sessions → AreBegun m.state.last sessions
  pub apart : AreApart m.sessions → AreApart sessions
  -- who holds a stream before and behind is the same transaction
  pub number : (q id : ℕ) → reads m.sessions q id ≡ true → reads sessions q id ≡ true
      → number_in sessions q ≡ number_in m.sessions q

-- an offset moves on, to a stamp before the last one; and what is refreshed is no base table
abbrev pub MovesOn : State → Act → Type 0
MovesOn s (MovesOffset id offset) =
    (offset ≤ s.last - 1) × ((old : Stream) → stream_at s.objects id ≡ Some old → old.offset ≤ offset)
MovesOn s (RefreshesRows id moment e c) = base_at s.objects id ≡ None
MovesOn s _ = Unit {0}

abbrev pub AllMoveOn : State → List Act → Type 0
AllMoveOn s acts = AllByRecursion (MovesOn s) acts

-- so do those of an outcome
abbrev pub KeepsMovingOn : Machine → List Act → Type 0
KeepsMovingOn m acts = AreBegun m.state.last m.sessions → AllMoveOn m.state acts

-- no stream that is held before and behind is among those that move
abbrev pub MovesFree : Machine → Sessions → List ℕ → Type 0
MovesFree m sessions moving = AreApart m.sessions → (q id : ℕ) → reads m.sessions q id ≡ true
    → reads sessions q id ≡ true → list_any (nat_eq id) moving ≡ false

-- what holds of the acts of a commit that leaves these sessions and moves those streams
pub record IsCommitOf (m : Machine) (moving : List ℕ) (sessions : Sessions) (acts : List Act) : Type 0 where
  pub shape : AreEditsFrom 0 acts
  pub moves : KeepsMovingOn m acts
  pub free : MovesFree m sessions moving
  pub stays : (id : ℕ) (s : Stream) → stream_at m.state.objects id ≡ Some s → list_any (nat_eq id) moving ≡ false
      → stream_at (all_acted m.state.last m.state.objects acts) id ≡ Some s

abbrev pub AreOfCommit : Machine → List ℕ → Sessions → Option (List Act) → Type 0
AreOfCommit m moving sessions None = Unit {0}
AreOfCommit m moving sessions (Some acts) = IsCommitOf m moving sessions acts

-- of an outcome that moves no other streams
pub record IsLawful (m : Machine) (moving : List ℕ) (o : Outcome) : Type 0 where
  -- where the reply is a refusal, all is as it was
  pub refused : IsTrue (is_refusal (settled m o).1) → (acts_in o ≡ None) × ((settled m o).0 ≡ m)
  pub sessions : KeepsSessions m (settled m o).0.sessions
  pub acts : AreOfCommit m moving (settled m o).0.sessions (acts_in o)

pub same_sessions : (m : Machine) → KeepsSessions m m.sessions
same_sessions m =
    record { begun = λ begun. begun; apart = λ apart. apart; number = λ q id before behind. refl }

pub refuses : (m : Machine) {moving : List ℕ} (why : Refusal) → IsLawful m moving (Refuses why)
refuses m why = record { refused = λ is. (refl, refl); sessions = same_sessions m; acts = tt }

pub does : (m : Machine) {moving : List ℕ} (reply : Reply) (sessions : Sessions) (acts : Option (List Act))
    → is_refusal reply ≡ false
    → KeepsSessions m sessions → AreOfCommit m moving sessions acts
    → IsLawful m moving (Does reply sessions acts)
does m reply sessions acts accepted keeps are =
    record { refused = λ is. absurd cc; sessions = keeps; acts = are }

pub tested : (m : Machine) {moving : List ℕ} (found : Option Refusal) (o : Outcome) → IsLawful m moving o
    → IsLawful m moving (unless found o)
tested m (Some why) o holds = refuses m why
tested m None o holds = holds

pub tested_last : (m : Machine) {moving : List ℕ} (found : Option Refusal) (o : Outcome) → IsLawful m moving o
    → IsLawful m moving (last_test found o)
tested_last m found (Refuses why) holds = holds
tested_last m found (Does reply sessions acts) holds = tested m found (Does reply sessions acts) holds

pub either : (m : Machine) {moving : List ℕ} (b : Bool) (o p : Outcome) → IsLawful m moving o → IsLawful m moving p
    → IsLawful m moving (cond b o p)
either m true o p first second = first
either m false o p first second = second

-- that leaves the sessions as they are
pub answered : (m : Machine) {moving : List ℕ} (reply : Reply) → is_refusal reply ≡ false
    → IsLawful m moving (answers m reply)
answered m reply accepted = does m reply m.sessions None accepted (same_sessions m) tt
