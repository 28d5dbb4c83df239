use Rattle.std.proofs.Common.{◌≡◌, None, Some, option_map, refl, ap, sym}
use Rattle.wh_state.specs.State.{State}
use Rattle.wh_txn.specs.View.{sessions_of}
use Rattle.wh_decide.specs.Decision.{machine_at}
use Rattle.wh_record.specs.View.{commit_of}
use Rattle.wh_txn.specs.Recording.{IsRead}
use Rattle.wh_fetch.specs.Device.{only_read_none}
use Rattle.wh_engine.proofs.StopLemmas.{leaves_still}
use Rattle.wh_engine.proofs.CarryLemmas.{carries_nothing, state_passed}
use Rattle.wh_engine.proofs.warehouse.Warehouse.record.Goals as goal

-- a stamp that passes doesn't touch the disk
pub returns-in-None-clause-answered : goal.returns-in-None-clause-answered
returns-in-None-clause-answered g c =
    let old = c.args.self.now in
    let none : option_map commit_of c.args.commit ≡ None = rw c.in-None.is refl in
    carries_nothing old _ _ _ none (only_read_none g.D.Disk old.fetch.disk) refl refl c.pass.ensures.stored
    c.pass.ensures.filed
    (ap (λ (s : State). machine_at s (sessions_of old.sessions))
    (state_passed old.catalog c.pass.new.self c.args.stamp _ none c.pass.ensures.state))
    c.requires.healthy

pub returns-in-None-clause-any_moment : goal.returns-in-None-clause-any_moment
returns-in-None-clause-any_moment g c = leaves_still g.met.D.Disk.only_now c.args.self.now _ _ (only_read_none g.D.Disk c.args.self.now.fetch.disk)

pub returns-in-Some-clause-answered : goal.returns-in-Some-clause-answered
returns-in-Some-clause-answered g c =
    let timed : c.in-Some.commit.stamp ≡ c.args.stamp = rw c.in-Some.is at c.requires.timed in
    rw (c.in-Some.is, sym timed) c.commit.ensures.answered

pub returns-in-Some-clause-halted : goal.returns-in-Some-clause-halted
returns-in-Some-clause-halted g c = rw c.in-Some.is c.commit.ensures.halted

pub returns-in-Some-clause-any_moment : goal.returns-in-Some-clause-any_moment
returns-in-Some-clause-any_moment g c =
    let timed : c.in-Some.commit.stamp ≡ c.args.stamp = rw c.in-Some.is at c.requires.timed in
    rw (c.in-Some.is, sym timed) c.commit.ensures.any_moment

pub commit-requires : goal.commit-requires
commit-requires g c =
    let read : IsRead (Some (commit_of c.in-Some.commit)) = rw c.in-Some.is at c.requires.read in
    record { healthy = c.requires.healthy; read = read }
