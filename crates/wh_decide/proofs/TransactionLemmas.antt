-- BEGIN, COMMIT and ROLLBACK: their outcomes.
--     is_closed, is_open                     whether the session has an open transaction
--     begin_open, begin_new                  BEGIN
--     commit_closed, commit_past             COMMIT that is refused
--     commits_changes, commits_nothing       and one that is carried out, by the commit that is written
--     rollback_closed, rollback_open         ROLLBACK
use Rattle.std.proofs.Common.{◌≡◌, ℕ, List, Option, Some, None, option_map, is_some, true, false, refl, ap, ◌∙◌}
use Rattle.wh_value.specs.declared.limit.Limit.{Limit}
use Rattle.wh_reply.specs.Reply.{Reply, OverLimit, TransactionOpen, NoTransaction, Begun, Committed}
use Rattle.wh_reply.specs.Reply.{CommittedNothing, RolledBack}
use Rattle.wh_reply.specs.declared.reply.Reply.TheVariants as told
use Rattle.wh_record.specs.View as records
use Rattle.wh_record.specs.View.{UnderstoodCommit}
use Rattle.wh_state.specs.Act.{Act}
use Rattle.wh_state.specs.Stored.{Stored}
use Rattle.wh_state.specs.Written.{commit_for}
use Rattle.wh_machine.specs.Transaction.{Transaction, acts_of, past_limit}
use Rattle.wh_machine.specs.Sessions.{Sessions, transaction_in, number_in, with_begun, with_ended}
use Rattle.wh_machine.specs.Outcome.{Machine, Refuses, Does, unless}
use Rattle.wh_machine.specs.Statements.{begin, recorded, commit_reply, commit_of, commit, rollback_of, rollback}
use Rattle.wh_decide.specs.declared.decision.Decision.TheVariants.{Do}
use Rattle.wh_decide.specs.declared.decision.Settlement.TheVariants.{Ends}
use Rattle.wh_decide.specs.Decision.{Decides}
use Rattle.wh_decide.proofs.OutcomeLemmas.{ends}

-- ---- the session's transaction

pub is_closed : (found : Option Transaction) (number : Option ℕ)
    → number ≡ option_map (λ (t : Transaction). t.number) found → is_some number ≡ false
    → found ≡ None
is_closed None number is none = refl
is_closed (Some t) number is none = absurd cc

pub is_open : (found : Option Transaction) (number : Option ℕ)
    → number ≡ option_map (λ (t : Transaction). t.number) found → is_some number ≡ true
    → (t : Transaction) × (found ≡ Some t)
is_open None number is some = absurd cc
is_open (Some t) number is some = (t, refl)

-- ---- BEGIN

pub begin_open : (m : Machine) (session number : ℕ) → number_in m.sessions session ≡ Some number
    → begin m session ≡ Refuses (TransactionOpen number)
unfolding begin
begin_open m session number is = ap (λ (found : Option ℕ). unless (option_map TransactionOpen found)
    (Does (Begun m.state.last) (with_begun m.sessions session m.state.last) None)) is

pub begin_new : (m : Machine) (session : ℕ) → number_in m.sessions session ≡ None
    → begin m session ≡ Does (Begun m.state.last) (with_begun m.sessions session m.state.last) None
unfolding begin
begin_new m session is = ap (λ (found : Option ℕ). unless (option_map TransactionOpen found)
    (Does (Begun m.state.last) (with_begun m.sessions session m.state.last) None)) is

-- ---- a transaction that commits

recorded_by : (m : Machine) (reply : Reply) (sessions : Sessions) (t : Transaction) (found : Option (ℕ × Limit))
    → past_limit m.state.objects t ≡ found → recorded m reply sessions t
    ≡ unless (option_map (λ past. OverLimit past.1) found) (Does reply sessions (acts_of m.state.objects t))
recorded_by m reply sessions t found is =
    ap (λ (found : Option (ℕ × Limit)). unless (option_map (λ past. OverLimit past.1) found)
    (Does reply sessions (acts_of m.state.objects t))) is

pub recorded_past : (m : Machine) (reply : Reply) (sessions : Sessions) (t : Transaction) (id : ℕ) (which : Limit)
    → past_limit m.state.objects t ≡ Some (id, which) → recorded m reply sessions t ≡ Refuses (OverLimit which)
recorded_past m reply sessions t id which is = recorded_by m reply sessions t (Some (id, which)) is

pub recorded_within : (m : Machine) (reply : Reply) (sessions : Sessions) (t : Transaction)
    → past_limit m.state.objects t ≡ None
    → recorded m reply sessions t ≡ Does reply sessions (acts_of m.state.objects t)
recorded_within m reply sessions t is = recorded_by m reply sessions t None is

-- ---- COMMIT

pub commit_closed : (m : Machine) (session : ℕ) → transaction_in m.sessions session ≡ None
    → commit m session ≡ Refuses NoTransaction
unfolding commit
commit_closed m session none = ap (commit_of m session) none

pub commit_past : (m : Machine) (session : ℕ) (t : Transaction) (id : ℕ) (which : Limit)
    → transaction_in m.sessions session ≡ Some t → past_limit m.state.objects t ≡ Some (id, which)
    → commit m session ≡ Refuses (OverLimit which)
unfolding commit
commit_past m session t id which held past =
    ap (commit_of m session) held
    ∙ recorded_past m (commit_reply m.state.last (acts_of m.state.objects t)) (with_ended m.sessions session) t id which
    past

commit_within : (m : Machine) (session : ℕ) (t : Transaction) (acts : Option (List Act))
    → transaction_in m.sessions session ≡ Some t → past_limit m.state.objects t ≡ None
    → acts_of m.state.objects t ≡ acts
    → commit m session ≡ Does (commit_reply m.state.last acts) (with_ended m.sessions session) acts
unfolding commit
commit_within m session t acts held within is =
    ap (commit_of m session) held
    ∙ recorded_within m (commit_reply m.state.last (acts_of m.state.objects t)) (with_ended m.sessions session) t within
    ∙ ap (λ (made : Option (List Act)). Does (commit_reply m.state.last made) (with_ended m.sessions session) made) is

-- what is written is the commit's changes
pub commits_changes : (s : Stored) (m : Machine) (session : ℕ) (t : Transaction) (c : UnderstoodCommit)
    → transaction_in m.sessions session ≡ Some t → past_limit m.state.objects t ≡ None
    → Some (records.commit_of c) ≡ option_map (commit_for s m.state.last) (acts_of m.state.objects t)
    → Decides s m.sessions m.state.last
    (Do (told.Committed m.state.last) (Ends session (Some c))) (commit m session)
commits_changes s m session t c held within is = by_acts (acts_of m.state.objects t) refl
  where
    by_acts : (acts : Option (List Act)) → acts_of m.state.objects t ≡ acts
        → Decides s m.sessions m.state.last
        (Do (told.Committed m.state.last) (Ends session (Some c))) (commit m session)
    by_acts None none = let found = rw none at is in absurd cc
    by_acts (Some acts) some =
        let found : Some (records.commit_of c) ≡ Some (commit_for s m.state.last acts) =
        is ∙ ap (option_map (commit_for s m.state.last)) some in
        ends s m.sessions m.state.last session (told.Committed m.state.last) (Some c) (commit m session)
        (Committed m.state.last) (Some acts) refl found
        (commit_within m session t (Some acts) held within some)

pub commits_nothing : (s : Stored) (m : Machine) (session : ℕ) (t : Transaction)
    → transaction_in m.sessions session ≡ Some t → past_limit m.state.objects t ≡ None
    → None ≡ option_map (commit_for s m.state.last) (acts_of m.state.objects t)
    → Decides s m.sessions m.state.last (Do told.CommittedNothing (Ends session None)) (commit m session)
commits_nothing s m session t held within is = by_acts (acts_of m.state.objects t) refl
  where
    by_acts : (acts : Option (List Act)) → acts_of m.state.objects t ≡ acts
        → Decides s m.sessions m.state.last (Do told.CommittedNothing (Ends session None)) (commit m session)
    by_acts None none =
        ends s m.sessions m.state.last session told.CommittedNothing None
        (commit m session) CommittedNothing None refl refl
        (commit_within m session t None held within none)
    by_acts (Some acts) some = let found = rw some at is in absurd cc

-- ---- ROLLBACK

pub rollback_closed : (m : Machine) (session : ℕ) → transaction_in m.sessions session ≡ None
    → rollback m session ≡ Refuses NoTransaction
unfolding rollback
rollback_closed m session none = ap (rollback_of m session) none

pub rollback_open : (m : Machine) (session : ℕ) (t : Transaction) → transaction_in m.sessions session ≡ Some t
    → rollback m session ≡ Does RolledBack (with_ended m.sessions session) None
unfolding rollback
rollback_open m session t held = ap (rollback_of m session) held
