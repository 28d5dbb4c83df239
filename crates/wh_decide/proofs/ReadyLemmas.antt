-- Decisions that can be carried out, whatever was read for them.
--     still_shown             what is told of the file's partitions stays so
--     objects_shown           so it is of a list of the objects, and of one more that has none
--     nothing_settles, nothing_ready     a refusal, or a reply alone
--     commit_settles          a commit at the stamp whose texts are understood
--     end_settles             the end of a transaction with such a commit, or with none
--     stage_settles           an effect in an open transaction
--     meant_settles           a decision on an outcome whose commit's texts are understood
--     failed_settles          that a refresh that was due has failed
use Rattle.std.proofs.Common.{◌≡◌, ℕ, List, [], ◌++◌, Option, Some, None, option_map, is_some, refl, sym, ap, subst}
use Rattle.std.proofs.Common.{◌∙◌, append-nil}
use Rattle.std.specs.Prelude.{IsTrue, Vec}
use Rattle.std.specs.declared.alloc.Global.{Global}
use denote.Ref.{Bor}
use Rattle.wh_filed.specs.Filed.{Filed, AllShown, AreAmong}
use Rattle.wh_reply.specs.Reply.{Refusal}
use Rattle.wh_record.specs.View.{UnderstoodCommit, commit_of}
use Rattle.wh_dml.specs.declared.target.Effect.{Effect}
use Rattle.wh_state.specs.Act.{Act}
use Rattle.wh_state.specs.Dynamic.{Dynamic}
use Rattle.wh_state.specs.Stored.{Stored}
use Rattle.wh_state.specs.Written.{commit_for}
use Rattle.wh_machine.specs.Transaction.{Transaction}
use Rattle.wh_machine.specs.Sessions.{Sessions, transaction_in}
use Rattle.wh_machine.specs.Outcome.{Outcome, acts_in}
use Rattle.wh_machine.specs.Dynamics.{failed_of}
use Rattle.wh_catalog.specs.Catalog.{stored_of, filed_of}
use Rattle.wh_catalog.specs.declared.object.StoredObject.{StoredObject}
use Rattle.wh_refresh.specs.Objects.{filed_at_objects}
use Rattle.wh_txn.specs.View.{sessions_of}
use Rattle.wh_txn.specs.Recording.{IsAt, IsRead}
use Rattle.wh_decide.specs.declared.decision.Decision.{Decision}
use Rattle.wh_decide.specs.declared.decision.Decision.TheVariants.{Refuse, Do}
use Rattle.wh_decide.specs.declared.decision.Settlement.TheVariants.{Answers, Commits, Stages, Ends}
use Rattle.wh_decide.specs.declared.sight.Sight.{Sight}
use Rattle.wh_decide.specs.Decision.{Decides, CanSettle, settlement_of}
use Rattle.wh_decide.specs.Sight.{machine_in, IsShown, Comes, IsReady, commit_meant}

pub still_shown : (sight : Sight) {told later : Option (List ℕ)} → later ≡ told → IsShown told sight
    → IsShown later sight
still_shown sight same shown = subst (λ (bytes : Option (List ℕ)). IsShown bytes sight) (sym same) shown

pub objects_shown : (sight : Sight) (told : Option (List ℕ)) (listed objects : List (Bor StoredObject))
    (more : List Filed) → AreAmong (filed_at_objects objects) (filed_of sight.catalog.now ++ more)
    → more ≡ [] → listed ≡ objects → IsShown told sight → AllShown told (filed_at_objects listed)
objects_shown sight told listed objects more among none same shown =
    subst (λ (os : List (Bor StoredObject)). AllShown told (filed_at_objects os)) (sym same)
    (among told (subst (AllShown told)
    (sym (ap (λ (fs : List Filed). filed_of sight.catalog.now ++ fs) none ∙ append-nil (filed_of sight.catalog.now)))
    shown))

-- ---- by what is settled

pub nothing_settles : (sessions : Sessions) (stamp : ℕ) → CanSettle sessions stamp Answers
nothing_settles sessions stamp = record { staged = tt; timed = tt; read = tt }

pub nothing_ready : (sight : Sight) → CanSettle (sessions_of sight.sessions.now) sight.stamp Answers
nothing_ready sight = nothing_settles (sessions_of sight.sessions.now) sight.stamp

pub commit_settles : (sessions : Sessions) (stamp : ℕ) (found : Option UnderstoodCommit)
    (commit : UnderstoodCommit) → found ≡ Some commit → IsAt stamp (option_map commit_of found)
    → IsRead (option_map commit_of found) → CanSettle sessions stamp (Commits commit)
commit_settles sessions stamp found commit is at read = record {
  staged = tt;
  timed = subst (λ (f : Option UnderstoodCommit). IsAt stamp (option_map commit_of f)) is at;
  read = subst (λ (f : Option UnderstoodCommit). IsRead (option_map commit_of f)) is read;
}

pub end_settles : (sessions : Sessions) (stamp session : ℕ) (found commit : Option UnderstoodCommit)
    → found ≡ commit → IsAt stamp (option_map commit_of found) → IsRead (option_map commit_of found)
    → CanSettle sessions stamp (Ends session commit)
end_settles sessions stamp session found commit is at read = record {
  staged = tt;
  timed = subst (λ (f : Option UnderstoodCommit). IsAt stamp (option_map commit_of f)) is at;
  read = subst (λ (f : Option UnderstoodCommit). IsRead (option_map commit_of f)) is read;
}

pub stage_settles : (sessions : Sessions) (stamp session id : ℕ) (streams : Vec ℕ Global) (next_row : ℕ)
    (effect : Effect) (t : Transaction) → transaction_in sessions session ≡ Some t
    → CanSettle sessions stamp (Stages session id streams next_row effect)
stage_settles sessions stamp session id streams next_row effect t is = record {
  staged = subst (λ (found : Option Transaction). IsTrue (is_some found)) (sym is) refl;
  timed = tt;
  read = tt;
}

-- ---- by what is meant

at_stamp : (s : Stored) (stamp : ℕ) (acts : Option (List Act)) → IsAt stamp (option_map (commit_for s stamp) acts)
at_stamp s stamp None = tt
at_stamp s stamp (Some acts) = refl

pub meant_settles : (s : Stored) (sessions : Sessions) (stamp : ℕ) (d : Decision) (o : Outcome)
    → Decides s sessions stamp d o → IsRead (option_map (commit_for s stamp) (acts_in o))
    → CanSettle sessions stamp (settlement_of d)
meant_settles s sessions stamp (Refuse why) o is read = nothing_settles sessions stamp
meant_settles s sessions stamp (Do reply settlement) o done read = record {
  staged = done.staged;
  timed = subst (IsAt stamp) (sym done.written) (at_stamp s stamp done.acts);
  read = subst IsRead (sym done.written)
      (subst (λ (acts : Option (List Act)). IsRead (option_map (commit_for s stamp) acts)) (ap acts_in done.does) read);
}

failed_read : (sight : Sight) (id target : ℕ) (why : Refusal) (found : Option Dynamic)
    → IsRead (commit_meant sight (failed_of (machine_in sight) id target why found))
failed_read sight id target why None = tt
failed_read sight id target why (Some d) = (tt, tt)

pub failed_settles : (sight : Sight) (id target : ℕ) (why : Refusal) (found : Option Dynamic) (d : Decision)
    → Comes sight d (failed_of (machine_in sight) id target why found) → IsReady sight d
failed_settles sight id target why found d comes =
    meant_settles (stored_of sight.catalog.now) (sessions_of sight.sessions.now) sight.stamp d
    (failed_of (machine_in sight) id target why found) comes (failed_read sight id target why found)
