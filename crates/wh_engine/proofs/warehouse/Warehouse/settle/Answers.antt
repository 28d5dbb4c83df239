use Rattle.std.proofs.Common.{◌≡◌, ℕ, List, Option, None, refl, sym, ap, ◌∙◌}
use Rattle.wh_dml.specs.View.{effect_of}
use Rattle.wh_machine.specs.Transaction as transactions
use Rattle.wh_machine.specs.Transaction.{Transaction}
use Rattle.wh_machine.specs.Sessions.{transaction_in, with_transaction, with_ended}
use Rattle.wh_machine.specs.Outcome.{Machine}
use Rattle.wh_fetch.specs.Device.{only_read_none}
use Rattle.wh_txn.specs.View.{sessions_of}
use Rattle.wh_decide.specs.Decision.{commit_in, sessions_after, transaction_or_new, machine_at}
use Rattle.wh_engine.proofs.StopLemmas.{leaves_still}
use Rattle.wh_engine.proofs.CarryLemmas.{carries_nothing, state_passed}
use Rattle.wh_engine.proofs.DecidedLemmas.{is_there}
use Rattle.wh_engine.proofs.warehouse.Warehouse.settle.Goals as goal

pub returns-in-Begins-clause-answered : goal.returns-in-Begins-clause-answered
returns-in-Begins-clause-answered g c =
    let old = c.args.self.now in
    let none : commit_in c.args.settlement ≡ None = rw c.in-Begins.is refl in
    let sessions = c.begin.ensures ∙ ap (sessions_after c.args.stamp (sessions_of old.sessions)) (sym c.in-Begins.is) in
    carries_nothing old _ _ _ none (only_read_none g.D.Disk old.fetch.disk) refl refl c.pass.ensures.stored
    c.pass.ensures.filed
    (λ i. machine_at (state_passed old.catalog c.pass.new.self c.args.stamp _ none c.pass.ensures.state i) (sessions i))
    c.requires.healthy

pub returns-in-Begins-clause-any_moment : goal.returns-in-Begins-clause-any_moment
returns-in-Begins-clause-any_moment g c = leaves_still g.met.D.Disk.only_now c.args.self.now _ _ (only_read_none g.D.Disk c.args.self.now.fetch.disk)

pub returns-in_err-stage-in-Stages-clause-any_moment : goal.returns-in_err-stage-in-Stages-clause-any_moment
returns-in_err-stage-in-Stages-clause-any_moment g c = leaves_still g.met.D.Disk.only_now c.args.self.now _ _ (only_read_none g.D.Disk c.args.self.now.fetch.disk)

pub returns-in_ok-stage-in-Stages-clause-answered : goal.returns-in_ok-stage-in-Stages-clause-answered
returns-in_ok-stage-in-Stages-clause-answered g c =
    let old = c.args.self.now in
    let before = sessions_of old.sessions in
    let staged = c.in-Stages in
    let none : commit_in c.args.settlement ≡ None = rw staged.is refl in
    let t = is_there (transaction_in before staged.session) (rw staged.is at c.requires.settles.staged) in
    let sessions =
    c.in_ok-stage-in-Stages.ensures.ok t.0 t.1
    ∙ ap (λ (streams : List ℕ). with_transaction before staged.session
    (transactions.staged t.0 staged.id streams staged.next_row (effect_of staged.effect)))
    c.deref.ensures.value
    ∙ ap (λ (found : Option Transaction). with_transaction before staged.session
    (transactions.staged (transaction_or_new found c.args.stamp) staged.id staged.streams.items staged.next_row
    (effect_of staged.effect)))
    (sym t.1)
    ∙ ap (sessions_after c.args.stamp before) (sym staged.is) in
    carries_nothing old _ _ _ none (only_read_none g.D.Disk old.fetch.disk) refl refl c.pass-in-Stages.ensures.stored
    c.pass-in-Stages.ensures.filed
    (λ i. machine_at (state_passed old.catalog c.pass-in-Stages.new.self c.args.stamp _ none
    c.pass-in-Stages.ensures.state i) (sessions i))
    c.requires.healthy

pub returns-in_ok-stage-in-Stages-clause-any_moment : goal.returns-in_ok-stage-in-Stages-clause-any_moment
returns-in_ok-stage-in-Stages-clause-any_moment g c = leaves_still g.met.D.Disk.only_now c.args.self.now _ _ (only_read_none g.D.Disk c.args.self.now.fetch.disk)

-- the transaction ends behind its commit
pub returns-in_ok-record-in-Ends-clause-answered : goal.returns-in_ok-record-in-Ends-clause-answered
returns-in_ok-record-in-Ends-clause-answered g c =
    let h = c.in_ok-record-in-Ends.ensures.answered in
    let state = ap (λ (m : Machine). m.state) h.stepped in
    let sessions =
    c.rollback.ensures ∙ ap (λ (m : Machine). with_ended m.sessions c.in-Ends.session) h.stepped in
    rw c.in-Ends.is (record {
      stepped = λ i. machine_at (state i) (sessions i);
      stored = h.stored;
      filed = h.filed;
      adds = h.adds;
      told = h.told;
      durable = h.durable;
      kept = h.kept;
      room = h.room;
      grows = h.grows;
      healthy = h.healthy;
      still_healthy = h.still_healthy;
      no_fault = h.no_fault;
    })
