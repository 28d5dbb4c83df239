use Rattle.std.proofs.Common.{refl, sym, subst, arith}
use Rattle.wh_engine.specs.Halts.{Halted}
use Rattle.wh_engine.proofs.HaltLemmas.{unread}
use Rattle.wh_engine.proofs.warehouse.Warehouse.decide.Goals as goal

pub invariant_of-self : goal.invariant_of-self
invariant_of-self g c =
    let w = c.args.self.now in
    let goes = c.decide.ensures.goes in
    record {
      some_worker = w.some_worker;
      reach = omega (arith, w.reach, goes.only_read.size);
      front = omega (arith, w.front, goes.reach);
      right = goes.right w.right;
      within = goes.within w.within;
    }

pub returns-in-Err-clause-halted : goal.returns-in-Err-clause-halted
returns-in-Err-clause-halted g c = λ commit.
    let goes = c.decide.ensures.goes in
    subst (Halted c.args.self.now _ commit) (sym c.unread.ensures)
    (unread c.decide.result c.in-Err.fault c.decide.new.fetch.damaged c.args.self.now _ commit c.in-Err.is refl
    c.requires.begun c.requires.healthy
    (record { disk = goes.only_read; journal = refl; catalog = refl; sessions = refl }) goes c.decide.ensures.counts
    c.decide.ensures.sound)
