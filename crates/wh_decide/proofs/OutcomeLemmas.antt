-- Outcomes, and the decisions that are them.
--     declines                        a refusal
--     answers                         a reply alone
--     commits_all, commits_none       a reply with a commit, by what is written for acts, if there are some
--     begins, ends                    what becomes of a transaction
--     decides_as, comes_as            a decision on an outcome is one on the same outcome
--     first_two, first_three, first_four     the first refusal of tests
--     viewed_or                       a refusal, or else another
use Rattle.std.proofs.Common.{◌≡◌, ℕ, List, [], ◌∷◌, Option, Some, None, option_map, Result, refl, sym, ap}
use Rattle.std.proofs.Common.{subst, ◌∙◌}
use Rattle.std.specs.Prelude.{unwrap_or}
use Rattle.std.specs.Option.{option_or}
use Rattle.std.specs.Result.{IfOk}
use Rattle.wh_reply.specs.Reply.{Refusal, Reply}
use Rattle.wh_reply.specs.declared.reply.Refusal as code
use Rattle.wh_reply.specs.declared.reply.Reply as code_reply
use Rattle.wh_reply.specs.View.{refusal_view, reply_view}
use Rattle.wh_record.specs.View.{commit_of}
use Rattle.wh_record.specs.View.{UnderstoodCommit}
use Rattle.wh_state.specs.Act.{Act}
use Rattle.wh_state.specs.Stored.{Stored}
use Rattle.wh_state.specs.Written.{commit_for}
use Rattle.wh_machine.specs.Tests.{first_of}
use Rattle.wh_machine.specs.Sessions.{Sessions, with_begun, with_ended}
use Rattle.wh_machine.specs.Outcome.{Outcome, Refuses, Does}
use Rattle.wh_decide.specs.declared.decision.Decision.{Decision}
use Rattle.wh_decide.specs.declared.decision.Decision.TheVariants.{Refuse, Do}
use Rattle.wh_decide.specs.declared.decision.Settlement.{Settlement}
use Rattle.wh_decide.specs.declared.decision.Settlement.TheVariants.{Answers, Commits, Begins, Ends}
use Rattle.wh_decide.specs.declared.sight.Sight.{Sight}
use Rattle.wh_decide.specs.Decision.{StagesInOpen, sessions_after, commit_in, Decides}
use Rattle.wh_decide.specs.Sight.{Comes}

-- ---- decisions

pub declines : (s : Stored) (sessions : Sessions) (stamp : ℕ) (why : code.Refusal) (o : Outcome) (meant : Refusal)
    → refusal_view why ≡ meant → o ≡ Refuses meant
    → Decides s sessions stamp (Refuse why) o
declines s sessions stamp why o meant is same = same ∙ sym (ap Refuses is)

-- a reply, with a settlement of those acts
does : (s : Stored) (sessions : Sessions) (stamp : ℕ) (told : code_reply.Reply) (settlement : Settlement) (o : Outcome)
    (reply : Reply) (acts : Option (List Act)) → reply_view told ≡ reply
    → commit_in settlement ≡ option_map (commit_for s stamp) acts → StagesInOpen sessions settlement
    → o ≡ Does reply (sessions_after stamp sessions settlement) acts
    → Decides s sessions stamp (Do told settlement) o
does s sessions stamp told settlement o reply acts is say open_there same = record {
  acts = acts;
  does = same ∙ sym (ap (λ (r : Reply). Does r (sessions_after stamp sessions settlement) acts) is);
  written = say;
  staged = open_there;
}

pub answers : (s : Stored) (sessions : Sessions) (stamp : ℕ) (told : code_reply.Reply) (o : Outcome) (reply : Reply)
    → reply_view told ≡ reply → o ≡ Does reply sessions None
    → Decides s sessions stamp (Do told Answers) o
answers s sessions stamp told o reply is same = does s sessions stamp told Answers o reply None is refl tt same

pub commits_all : (s : Stored) (sessions : Sessions) (stamp : ℕ) (told : code_reply.Reply)
    (commit : UnderstoodCommit)
    (o : Outcome) (reply : Reply) (acts : Option (List Act)) → reply_view told ≡ reply
    → Some (commit_of commit) ≡ option_map (commit_for s stamp) acts
    → o ≡ Does reply sessions acts → Decides s sessions stamp (Do told (Commits commit)) o
commits_all s sessions stamp told commit o reply acts is say same =
    does s sessions stamp told (Commits commit) o reply acts is say tt same

pub commits_none : (s : Stored) (sessions : Sessions) (stamp : ℕ) (told : code_reply.Reply) (o : Outcome)
    (reply : Reply) (acts : Option (List Act)) → reply_view told ≡ reply
    → None ≡ option_map (commit_for s stamp) acts
    → o ≡ Does reply sessions acts → Decides s sessions stamp (Do told Answers) o
commits_none s sessions stamp told o reply acts is say same =
    does s sessions stamp told Answers o reply acts is say tt same

pub begins : (s : Stored) (sessions : Sessions) (stamp session : ℕ) (told : code_reply.Reply)
    (o : Outcome) (reply : Reply)
    → reply_view told ≡ reply → o ≡ Does reply (with_begun sessions session stamp) None
    → Decides s sessions stamp (Do told (Begins session)) o
begins s sessions stamp session told o reply is same =
    does s sessions stamp told (Begins session) o reply None is refl tt same

pub ends : (s : Stored) (sessions : Sessions) (stamp session : ℕ) (told : code_reply.Reply)
    (commit : Option UnderstoodCommit) (o : Outcome) (reply : Reply) (acts : Option (List Act))
    → reply_view told ≡ reply
    → option_map commit_of commit ≡ option_map (commit_for s stamp) acts
    → o ≡ Does reply (with_ended sessions session) acts → Decides s sessions stamp (Do told (Ends session commit)) o
ends s sessions stamp session told commit o reply acts is say same =
    does s sessions stamp told (Ends session commit) o reply acts is say tt same

-- ---- the same outcome

pub decides_as : (sight : Sight) (d : Decision) {o p : Outcome} → o ≡ p → Comes sight d o → Comes sight d p
decides_as sight d same = subst (Comes sight d) same

pub comes_as : {E : Type 0} (sight : Sight) (r : Result Decision E) {o p : Outcome} → o ≡ p
    → IfOk r (λ d. Comes sight d o) → IfOk r (λ d. Comes sight d p)
comes_as sight r same = subst (λ (q : Outcome). IfOk r (λ d. Comes sight d q)) same

-- ---- tests

pub first_two : {R : Type 0} (f : R → Refusal) (a b : Option R)
    → option_map f (option_or a b) ≡ first_of (option_map f a ∷ option_map f b ∷ [])
first_two f (Some x) b = refl
first_two f None (Some x) = refl
first_two f None None = refl

pub first_three : {R : Type 0} (f : R → Refusal) (a b c : Option R)
    → option_map f (option_or (option_or a b) c) ≡ first_of (option_map f a ∷ option_map f b ∷ option_map f c ∷ [])
first_three f (Some x) b c = refl
first_three f None (Some x) c = refl
first_three f None None (Some x) = refl
first_three f None None None = refl

pub first_four : {R : Type 0} (f : R → Refusal) (a b c d : Option R)
    → option_map f (option_or (option_or (option_or a b) c) d)
    ≡ first_of (option_map f a ∷ option_map f b ∷ option_map f c ∷ option_map f d ∷ [])
first_four f (Some x) b c d = refl
first_four f None (Some x) c d = refl
first_four f None None (Some x) d = refl
first_four f None None None (Some x) = refl
first_four f None None None None = refl

pub viewed_or : {R : Type 0} (f : R → Refusal) (found : Option R) (other : R)
    → f (unwrap_or found other) ≡ unwrap_or (option_map f found) (f other)
viewed_or f None other = refl
viewed_or f (Some x) other = refl
