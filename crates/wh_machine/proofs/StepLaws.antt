-- What an event leaves.
--     stamp_passes, stamp_refused           the last stamp, and an event that there is none for
--     each_event                            what holds with a stamp and without one
--     last_grows, committed_kept            the stamps of a machine
--     settled_meant, decided_meant          an outcome over an orderly file that means the state before
--     step_meant, rest_meant                with the event's commit it means the one after
--     unmade                                an event without a commit
--     refused_acts, refusals_change_nothing     a refused one
use Rattle.std.proofs.Common.{◌≡◌, ℕ, ◌≤◌, Bool, true, false, cond, List, Option, Some, None, option_map}
use Rattle.std.proofs.Common.{refl, sym, ap, ◌∙◌}
use Rattle.std.proofs.Common.{arith}
use Rattle.std.specs.Prelude.{IsTrue}
use Rattle.wh_value.specs.declared.limit.Limit.TheVariants as limits
use Rattle.wh_reply.specs.Reply.{Reply, Refused, OverLimit, is_refusal}
use Rattle.wh_state.specs.State.{State, at_rest, stamped}
use Rattle.wh_state.specs.Act.{Act, done}
use Rattle.wh_state.specs.Stored.{Stored, meant}
use Rattle.wh_state.specs.Written.{commit_for, kept_after}
use Rattle.wh_state.specs.Orderly.{IsOrderlyStored}
use Rattle.wh_state.proofs.ActLaws.{written_meant}
use Rattle.wh_machine.specs.Outcome.{Machine, Outcome, Refuses, Does, settled, acts_in, rest_of}
use Rattle.wh_machine.specs.Step.{Event, reading_of, stamp_of, at_stamp, has_stamp, decided, step, acts_of}
use Rattle.wh_machine.specs.Made.{made}
use Rattle.wh_machine.proofs.Lawful.{IsLawful}
use Rattle.wh_machine.proofs.EventLaws.{lawful}

-- ---- stamps

settled_last : (m : Machine) (o : Outcome) → (settled m o).0.state.last ≡ m.state.last
settled_last m (Refuses why) = refl
settled_last m (Does reply sessions None) = refl
settled_last m (Does reply sessions (Some acts)) = refl

settled_committed : (m : Machine) (o : Outcome) → m.state.committed ≤ m.state.last
    → (settled m o).0.state.committed ≤ m.state.last
settled_committed m (Refuses why) h = h
settled_committed m (Does reply sessions None) h = h
settled_committed m (Does reply sessions (Some acts)) h = omega arith

-- the machine at the stamp of an event
abbrev pub ready : Machine → Event → Machine
ready m e = at_stamp m (stamp_of m.state (reading_of e))

-- an event with a stamp is settled at it
pub step_at : (m : Machine) (e : Event) → has_stamp m e ≡ true → step m e ≡ settled (ready m e) (decided m e)
unfolding step
step_at m e has = rw has

pub acts_at : (m : Machine) (e : Event) → has_stamp m e ≡ true → acts_of m e ≡ acts_in (decided m e)
unfolding acts_of
acts_at m e has = rw has

-- the event's stamp is the last one then
pub stamp_passes : (m : Machine) (e : Event) → has_stamp m e ≡ true
    → (step m e).0.state.last ≡ stamp_of m.state (reading_of e)
stamp_passes m e has =
    ap (λ (p : Machine × Reply). p.0.state.last) (step_at m e has) ∙ settled_last (ready m e) (decided m e)

-- without one it is refused, and all stays
pub stamp_refused : (m : Machine) (e : Event) → has_stamp m e ≡ false
    → step m e ≡ (m, Refused (OverLimit limits.Stamp))
unfolding step
stamp_refused m e none = rw none

pub no_acts : (m : Machine) (e : Event) → has_stamp m e ≡ false → acts_of m e ≡ None
unfolding acts_of
no_acts m e none = rw none

-- what holds of a reply with its acts at the event's stamp, and of the refusal, holds of the event's
pub each_event : (m : Machine) (e : Event) (P : Machine × Reply → Option (List Act) → Type 0)
    → P (settled (ready m e) (decided m e)) (acts_in (decided m e))
    → P (m, Refused (OverLimit limits.Stamp)) None
    → P (step m e) (acts_of m e)
unfolding step acts_of
each_event m e P stamped refused = by_test (has_stamp m e)
  where
    by_test : (has : Bool) → P (cond has (settled (ready m e) (decided m e)) (m, Refused (OverLimit limits.Stamp)))
        (cond has (acts_in (decided m e)) None)
    by_test true = stamped
    by_test false = refused

pub last_grows : (m : Machine) (e : Event) → m.state.last ≤ (step m e).0.state.last
last_grows m e = each_event m e (λ p acts. m.state.last ≤ p.0.state.last)
    (omega (arith, settled_last (ready m e) (decided m e))) (omega arith)

pub committed_kept : (m : Machine) (e : Event) → m.state.committed ≤ m.state.last
    → (step m e).0.state.committed ≤ (step m e).0.state.last
committed_kept m e before = each_event m e (λ p acts. p.0.state.committed ≤ p.0.state.last)
    (omega (
      arith,
      settled_last (ready m e) (decided m e),
      settled_committed (ready m e) (decided m e) (omega arith),
    )) before

-- ---- what a file means

-- what an outcome comes to, over an orderly file that means the state but for its last stamp
pub settled_meant : (s : Stored) (m : Machine) (stamp : ℕ) {moving : List ℕ} (o : Outcome) → IsOrderlyStored s
    → IsLawful (at_stamp m stamp) moving o → m.state ≡ record (meant s) { last = m.state.last }
    → (settled (at_stamp m stamp) o).0.state
    ≡ record (meant (kept_after s (option_map (commit_for s stamp) (acts_in o)))) { last = stamp }
settled_meant s m stamp (Refuses why) orderly holds is = ap (λ (t : State). stamped t stamp) is
settled_meant s m stamp (Does reply sessions None) orderly holds is = ap (λ (t : State). stamped t stamp) is
settled_meant s m stamp (Does reply sessions (Some acts)) orderly holds is =
    ap (λ (t : State). done (stamped t stamp) acts) is
    ∙ ap (λ (t : State). stamped t stamp) (sym (written_meant s stamp acts holds.acts.shape orderly))

-- so for what an event does
pub decided_meant : (s : Stored) (m : Machine) (e : Event) → IsOrderlyStored s
    → m.state ≡ record (meant s) { last = m.state.last }
    → (settled (ready m e) (decided m e)).0.state
    ≡ record (meant
    (kept_after s (option_map (commit_for s (stamp_of m.state (reading_of e))) (acts_in (decided m e))))) {
      last = stamp_of m.state (reading_of e);
    }
decided_meant s m e orderly is =
    settled_meant s m (stamp_of m.state (reading_of e)) (decided m e) orderly
    (lawful (ready m e) e) is

-- the event's commit leaves a file that means the state after it but for its last stamp
pub step_meant : (s : Stored) (m : Machine) (e : Event) → IsOrderlyStored s
    → m.state ≡ record (meant s) { last = m.state.last }
    → (step m e).0.state ≡ record (meant (kept_after s (made s m e))) { last = (step m e).0.state.last }
step_meant s m e orderly is =
    let stamp : ℕ = stamp_of m.state (reading_of e) in
    each_event m e
    (λ p acts. p.0.state ≡ stamped (meant (kept_after s (option_map (commit_for s stamp) acts))) p.0.state.last)
    (decided_meant s m e orderly is
    ∙ ap (stamped (meant (kept_after s (option_map (commit_for s stamp) (acts_in (decided m e))))))
    (sym (settled_last (ready m e) (decided m e)))) is

-- as the file keeps it, it is what the file means
pub rest_meant : (s : Stored) (m : Machine) (e : Event) → IsOrderlyStored s
    → m.state ≡ record (meant s) { last = m.state.last }
    → rest_of (step m e).0 ≡ meant (kept_after s (made s m e))
rest_meant s m e orderly is = ap at_rest (step_meant s m e orderly is)

-- ---- events without a commit

settled_unmade : (m : Machine) (o : Outcome) → acts_in o ≡ None → (settled m o).0.state ≡ m.state
settled_unmade m (Refuses why) none = refl
settled_unmade m (Does reply sessions None) none = refl
settled_unmade m (Does reply sessions (Some acts)) none = absurd cc

pub unmade : (m : Machine) (e : Event) → acts_of m e ≡ None
    → (step m e).0.state ≡ record (m.state) { last = (step m e).0.state.last }
unmade m e none = each_event m e (λ p acts. acts ≡ None → p.0.state ≡ stamped m.state p.0.state.last)
    (λ none. settled_unmade (ready m e) (decided m e) none
    ∙ ap (stamped m.state) (sym (settled_last (ready m e) (decided m e)))) (λ none. refl) none

-- ---- refused events

pub refused_acts : (m : Machine) (e : Event) → IsTrue (is_refusal (step m e).1) → acts_of m e ≡ None
refused_acts m e refused = each_event m e (λ p acts. IsTrue (is_refusal p.1) → acts ≡ None)
    (λ is. ((lawful (ready m e) e).refused is).0) (λ is. refl) refused

-- a refused event changes nothing but the last stamp
pub refusals_change_nothing : (m : Machine) (e : Event) → IsTrue (is_refusal (step m e).1)
    → (step m e).0 ≡ at_stamp m (step m e).0.state.last
refusals_change_nothing m e refused =
    each_event m e (λ p acts. IsTrue (is_refusal p.1) → p.0 ≡ at_stamp m p.0.state.last)
    (λ is. ((lawful (ready m e) e).refused is).1 ∙ ap (at_stamp m) (sym (settled_last (ready m e) (decided m e))))
    (λ is. refl) refused
