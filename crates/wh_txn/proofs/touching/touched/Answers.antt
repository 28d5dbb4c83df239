use Rattle.std.proofs.Common.{sym, subst, List}
use denote.Ref.{Bor}
use Rattle.std.proofs.lemmas.List.{take_all}
use Rattle.wh_bound_change.specs.View.{change_of}
use Rattle.wh_filed.specs.Filed.{Filed, filed_at, partitions_at, AllShown}
use Rattle.wh_txn.proofs.TouchedLemmas.{touched_next, among_next}
use Rattle.wh_txn.proofs.touching.touched.Goals as goal

pub loop-one-preserved : goal.loop-one-preserved
loop-one-preserved c =
    let at = c.loop-one in
    let filed = c.args.filed.now in
    let found = c.add_touched.new.found.items in
    record {
      touched = touched_next (change_of c.args.change.now) filed at.one-index c.one-item.result (partitions_at found)
          c.loop-one-test.true c.one-item.is
          (c.in_ok-add_touched.ensures.touched _ at.invariant.touched);
      among = among_next filed at.one-index c.one-item.result (filed_at at.found.items) (filed_at found)
          c.loop-one-test.true c.one-item.is at.invariant.among c.in_ok-add_touched.ensures.among;
    }

pub returns-clause-among : goal.returns-clause-among
returns-clause-among c = λ told shown.
    c.loop-one.invariant.among told
    (subst (λ (fs : List (Bor Filed)). AllShown told (filed_at fs))
    (sym (take_all c.loop-one.one-index c.args.filed.now c.loop-one-test.false)) shown)
