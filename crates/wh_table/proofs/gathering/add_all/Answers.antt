use Rattle.std.proofs.Common.{◌∷◌, [], ◌++◌, sym, subst, refl, List}
use Rattle.std.specs.List.{AllByRecursion}
use Rattle.wh_frame.specs.Partition.{Partition}
use Rattle.wh_state.specs.Orderly.{HasRisingRows}
use Rattle.wh_version.proofs.Steps.{one_on, all_on}
use Rattle.wh_table.specs.Rows.{partitions_at}
use Rattle.wh_table.proofs.StandingLaws.{each_more}
use Rattle.wh_table.proofs.gathering.add_all.Goals as goal

pub loop-partition-preserved : goal.loop-partition-preserved
loop-partition-preserved c =
    let all : List Partition = c.args.partitions.now in
    let at = c.loop-partition in
    let p = c.partition-item.result in
    record {
      added = one_on (λ q. q ∷ []) (λ qs. qs) (λ q qs. refl) all at.partition-index p (partitions_at at.found.items)
          (partitions_at c.add.new.found.items) (partitions_at c.args.found.now.items ++ all)
          c.loop-partition-test.true c.partition-item.is c.in_ok-add.ensures.added at.invariant.added;
      rising = λ up. subst (AllByRecursion HasRisingRows) (sym c.in_ok-add.ensures.added)
          (each_more HasRisingRows (partitions_at at.found.items) (p ∷ []) (at.invariant.rising up)
          (c.in_ok-add.ensures.rising, tt));
    }

pub returns : goal.returns
returns c =
    let all : List Partition = c.args.partitions.now in
    let at = c.loop-partition in
    record {
      added = all_on (λ q. q ∷ []) (λ qs. qs) refl all at.partition-index (partitions_at at.found.items)
          (partitions_at c.args.found.now.items ++ all) c.loop-partition-test.false at.invariant.added;
      rising = at.invariant.rising;
    }
