use Rattle.std.proofs.Common.{◌≡◌, ℕ, Err, option_map, ap, sym, ◌∙◌}
use Rattle.wh_value.specs.declared.limit.Limit.{Limit}
use Rattle.wh_reply.specs.Reply.{Reply, Changed, OverLimit}
use Rattle.wh_reply.specs.declared.reply.Refusal.TheVariants as refused
use Rattle.wh_reply.specs.declared.reply.Reply.TheVariants as code
use Rattle.wh_bound_change.specs.View as changes
use Rattle.wh_dml.specs.View.{effect_of}
use Rattle.wh_effect.specs.Effect.{Effect}
use Rattle.wh_record.specs.View.{commit_of}
use Rattle.wh_state.specs.Stored.{Stored}
use Rattle.wh_machine.specs.Changes.{reply_to}
use Rattle.wh_machine.specs.Sessions.{Sessions}
use Rattle.wh_machine.specs.Outcome.{Outcome, Refuses}
use Rattle.wh_machine.specs.Transaction.{Transaction, begun, staged_in_state}
use Rattle.wh_catalog.specs.Catalog.{stored_of}
use Rattle.wh_txn.specs.View.{sessions_of}
use Rattle.wh_decide.specs.declared.decision.Decision.TheVariants.{Refuse}
use Rattle.wh_decide.specs.Decision.{Decides}
use Rattle.wh_decide.specs.Sight.{machine_in}
use Rattle.wh_decide.proofs.OutcomeLemmas.{declines, commits_all, commits_none}
use Rattle.wh_decide.proofs.ReadyLemmas.{nothing_ready, commit_settles}
use Rattle.wh_decide.proofs.TransactionLemmas.{recorded_past, recorded_within}
use Rattle.wh_decide.proofs.settling.alone.Given.{Over}
use Rattle.wh_decide.proofs.settling.alone.Goals.{After-lone_commit}
use Rattle.wh_decide.proofs.settling.alone.Goals as goal

module _ (g : Over) (c : After-lone_commit g) where
  abbrev e : Effect
  e = effect_of c.args.effect

  abbrev reply : Reply
  reply = reply_to (changes.change_of c.args.bound.now.change) e

  abbrev t : Transaction
  t = staged_in_state (machine_in c.args.sight.now).state (begun c.args.sight.now.stamp)
      c.args.bound.now.target c.args.streams.now e

-- a limit that a fault tells, as it is meant
past : (s : Stored) (sessions : Sessions) (stamp : ℕ) (which meant : Limit) (o : Outcome) → which ≡ meant
    → o ≡ Refuses (OverLimit meant) → Decides s sessions stamp (Refuse (refused.OverLimit which)) o
past s sessions stamp which meant o is same =
    declines s sessions stamp (refused.OverLimit which) o (OverLimit meant) (ap OverLimit is) same

pub returns-in-Ok-Some-clause-comes : goal.returns-in-Ok-Some-clause-comes
returns-in-Ok-Some-clause-comes g c = λ shown.
    let sight = c.args.sight.now in
    let at = (goal.at.returns-in-Ok-Some-clause-comes g c).After-lone_commit in
    commits_all (stored_of sight.catalog.now) (sessions_of sight.sessions.now) sight.stamp
    (code.Changed c.counts_of-counts.result) c.in-Ok-Some.commit _
    (reply g at) _ (ap Changed c.counts_of-counts.ensures)
    (ap (option_map commit_of) (sym c.in-Ok-Some.field-0-is) ∙ (c.in-Ok-Some.ensures.gives shown).made)
    (recorded_within (machine_in sight) (reply g at) (machine_in sight).sessions (t g at)
    (c.in-Ok-Some.ensures.gives shown).within)

pub returns-in-Ok-None-clause-comes : goal.returns-in-Ok-None-clause-comes
returns-in-Ok-None-clause-comes g c = λ shown.
    let sight = c.args.sight.now in
    let at = (goal.at.returns-in-Ok-None-clause-comes g c).After-lone_commit in
    commits_none (stored_of sight.catalog.now) (sessions_of sight.sessions.now) sight.stamp
    (code.Changed c.counts_of-counts.result) _
    (reply g at) _ (ap Changed c.counts_of-counts.ensures)
    (ap (option_map commit_of) (sym c.in-Ok-None.field-0-is) ∙ (c.in-Ok-None.ensures.gives shown).made)
    (recorded_within (machine_in sight) (reply g at) (machine_in sight).sessions (t g at)
    (c.in-Ok-None.ensures.gives shown).within)

pub returns-in-Err-Limit-clause-comes : goal.returns-in-Err-Limit-clause-comes
returns-in-Err-Limit-clause-comes g c = λ shown.
    let sight = c.args.sight.now in
    let at = (goal.at.returns-in-Err-Limit-clause-comes g c).After-lone_commit in
    past (stored_of sight.catalog.now) (sessions_of sight.sessions.now) sight.stamp _ c.in-Err-Limit.which _
    c.in-Err-Limit.which-is
    (recorded_past (machine_in sight) (reply g at) (machine_in sight).sessions (t g at) _ c.in-Err-Limit.which
    ((c.in-Err-Limit.ensures.gives shown).limit _ _ (ap Err c.in-Err-Limit.field-0-is)))

pub returns-in-Ok-Some-clause-ready : goal.returns-in-Ok-Some-clause-ready
returns-in-Ok-Some-clause-ready g c =
    commit_settles (sessions_of c.args.sight.now.sessions.now) c.args.sight.now.stamp _ c.in-Ok-Some.commit
    c.in-Ok-Some.field-0-is c.in-Ok-Some.ensures.timed c.in-Ok-Some.ensures.read

pub returns-in-Ok-None-clause-ready : goal.returns-in-Ok-None-clause-ready
returns-in-Ok-None-clause-ready g c = nothing_ready c.args.sight.now

pub returns-in-Err-Limit-clause-ready : goal.returns-in-Err-Limit-clause-ready
returns-in-Err-Limit-clause-ready g c = nothing_ready c.args.sight.now
