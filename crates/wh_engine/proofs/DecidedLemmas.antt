-- What a decision on an event leads to.
--     Comes        an event's commit, and the machine and the reply that it comes to
--     turns        so from what was decided on it at its stamp
--     is_there     an open transaction
--     unstamped    an event that there is no stamp for
use Rattle.std.proofs.Common.{◌≡◌, ℕ, ◌+◌, ◌<◌, ◌≤◌, max, true, false, Some, None, Option, option_map, is_some}
use Rattle.std.specs.Prelude.{IsTrue}
use Rattle.std.proofs.Common.{refl, sym, ap, subst, ◌∙◌, arith}
use Rattle.std.proofs.lemmas.Bool.{lt-ltb, le-ltb}
use Rattle.wh_value.specs.Limit.{bound}
use Rattle.wh_value.specs.declared.limit.Limit.TheVariants as limits
use Rattle.wh_reply.specs.Reply.{Reply, Refused, OverLimit}
use Rattle.wh_state.specs.State.{stamped}
use Rattle.wh_state.specs.Stored.{Stored, meant}
use Rattle.wh_state.specs.Orderly.{IsOrderlyStored}
use Rattle.wh_state.specs.Written.{commit_for}
use Rattle.wh_machine.specs.Transaction.{Transaction}
use Rattle.wh_machine.specs.Sessions.{Sessions}
use Rattle.wh_machine.specs.Outcome.{Machine, Outcome, settled, acts_in}
use Rattle.wh_machine.specs.Step.{Event, reading_of, stamp_of, at_stamp, has_stamp, outcome_of, decided, step}
use Rattle.wh_machine.specs.Made.{made}
use Rattle.wh_machine.proofs.StepLaws.{ready, step_at, acts_at, stamp_refused, no_acts, decided_meant}
use Rattle.wh_decide.specs.declared.decision.Decision.{Decision}
use Rattle.wh_decide.specs.declared.decision.Decision.TheVariants as decisions
use Rattle.wh_decide.specs.declared.decision.Settlement.{Settlement}
use Rattle.wh_decide.specs.Decision.{Decides, machine_at, sessions_after, commit_in, answer_of, settlement_of}
use Rattle.wh_engine.specs.Warehouse.{state_with}
use Rattle.wh_catalog.specs.Catalog.{stored_of, state_of}
use Rattle.wh_catalog.specs.declared.catalog.Catalog.{Catalog}
use Rattle.wh_decide.proofs.CatalogLemmas.{state_is}

-- ---- what a decision tells

-- of an outcome that it comes to
record IsTold (s : Stored) (m : Machine) (stamp : ℕ) (d : Decision) (o : Outcome) : Type 0 where
  commit : commit_in (settlement_of d) ≡ option_map (commit_for s stamp) (acts_in o)
  sessions : sessions_after stamp m.sessions (settlement_of d) ≡ (settled (at_stamp m stamp) o).0.sessions
  reply : answer_of d ≡ (settled (at_stamp m stamp) o).1

told : (s : Stored) (m : Machine) (stamp : ℕ) (d : Decision) (o : Outcome) → Decides s m.sessions stamp d o
    → IsTold s m stamp d o
told s m stamp (decisions.Refuse why) o is =
    subst (λ (x : Outcome). IsTold s m stamp (decisions.Refuse why) x) (sym is)
    (record { commit = refl; sessions = refl; reply = refl })
told s m stamp (decisions.Do reply settlement) o done =
    subst (λ (x : Outcome). IsTold s m stamp (decisions.Do reply settlement) x) (sym done.does)
    (record { commit = done.written; sessions = refl; reply = refl })

-- a transaction that there is
pub is_there : (found : Option Transaction) → IsTrue (is_some found) → (t : Transaction) × (found ≡ Some t)
is_there None some = absurd cc
is_there (Some t) some = (t, refl)

-- ---- at an event's stamp

pub record Comes
    (s : Stored) (m : Machine) (e : Event) (stamp : ℕ) (settlement : Settlement) (reply : Reply) : Type 0 where
  pub commit : made s m e ≡ commit_in settlement
  pub leaves : (step m e).0
      ≡ machine_at (state_with s stamp (commit_in settlement)) (sessions_after stamp m.sessions settlement)
  pub replied : reply ≡ (step m e).1

comes : (s : Stored) (m : Machine) (e : Event) (d : Decision) → IsOrderlyStored s
    → m.state ≡ record (meant s) { last = m.state.last }
    → has_stamp m e ≡ true → Decides s m.sessions (stamp_of m.state (reading_of e)) d (decided m e)
    → Comes s m e (stamp_of m.state (reading_of e)) (settlement_of d) (answer_of d)
comes s m e d orderly is has decides =
    let stamp : ℕ = stamp_of m.state (reading_of e) in
    let o : Outcome = decided m e in
    let h : IsTold s m stamp d o = told s m stamp d o decides in
    let state : (settled (ready m e) o).0.state ≡ state_with s stamp (commit_in (settlement_of d)) =
    decided_meant s m e orderly is ∙ ap (state_with s stamp) (sym h.commit) in
    record {
      commit = ap (option_map (commit_for s stamp)) (acts_at m e has) ∙ sym h.commit;
      leaves = ap (λ (p : Machine × Reply). p.0) (step_at m e has) ∙ (λ i. machine_at (state i) (sym h.sessions i));
      replied = h.reply ∙ sym (ap (λ (p : Machine × Reply). p.1) (step_at m e has));
    }

-- so for a catalog and open transactions, where the stamp is the code's
pub turns : (c : Catalog) (sessions : Sessions) (e : Event) (reading last most stamp : ℕ) (d : Decision)
    (settlement : Settlement) (reply : Reply)
    → IsOrderlyStored (stored_of c) → reading ≡ reading_of e → last ≡ (state_of c).last → most ≡ bound limits.Stamp
    → stamp ≡ max reading (last + 1) → stamp < most
    → Decides (stored_of c) sessions stamp d (outcome_of (machine_at (stamped (state_of c) stamp) sessions) e)
    → settlement ≡ settlement_of d → reply ≡ answer_of d
    → Comes (stored_of c) (machine_at (state_of c) sessions) e stamp settlement reply
turns c sessions e reading last most stamp d settlement reply orderly read was limit at within h carried told =
    let s = stored_of c in
    let m : Machine = machine_at (state_of c) sessions in
    let is : stamp ≡ stamp_of (state_of c) (reading_of e) = omega (arith, read, was, at) in
    let has : has_stamp m e ≡ true = lt-ltb _ _ (omega (arith, is, limit, within)) in
    let decides : Decides s sessions (stamp_of (state_of c) (reading_of e)) d (decided m e) =
    subst (λ (n : ℕ). Decides s sessions n d (outcome_of (machine_at (stamped (state_of c) n) sessions) e)) is h in
    subst (λ (n : ℕ). Comes s m e n settlement reply) (sym is)
    (subst (λ (done : Settlement). Comes s m e (stamp_of (state_of c) (reading_of e)) done reply) (sym carried)
    (subst (λ (r : Reply). Comes s m e (stamp_of (state_of c) (reading_of e)) (settlement_of d) r) (sym told)
    (comes s m e d orderly (state_is c) has decides)))

-- ---- no stamp is left

pub unstamped : (s : Stored) (m : Machine) (e : Event) → bound limits.Stamp ≤ stamp_of m.state (reading_of e)
    → (made s m e ≡ None) × (step m e ≡ (m, Refused (OverLimit limits.Stamp)))
unstamped s m e past =
    let none : has_stamp m e ≡ false = le-ltb _ _ past in
    (ap (option_map (commit_for s (stamp_of m.state (reading_of e)))) (no_acts m e none), stamp_refused m e none)
