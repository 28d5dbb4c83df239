use Rattle.std.proofs.Common.{◌≤◌, sym, subst, arith}
use Rattle.wh_journal.specs.Journal.{end_of}
use Rattle.wh_engine.proofs.ReadLemmas.{still_right, still_within}
use Rattle.wh_engine.proofs.warehouse.Warehouse.begin.Goals as goal

pub invariant_of-self : goal.invariant_of-self
invariant_of-self g c =
    let w = c.args.self.now in
    let begun = c.begin.ensures in
    record {
      some_worker = w.some_worker;
      reach = subst (λ (disk : _). end_of w.journal ≤ g.D.Disk.size disk) (sym begun.disk.0) w.reach;
      front = omega (arith, w.front, begun.disk.1);
      right = still_right g.D.Disk w.fetch c.begin.new.self begun.disk.0 begun.kept w.right;
      within = still_within w.fetch c.begin.new.self begun.disk.1 begun.kept w.within;
    }
