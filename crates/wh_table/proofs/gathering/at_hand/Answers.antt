use Rattle.std.proofs.Common.{◌≡◌, ◌∷◌, [], ◌++◌, ap, sym, subst, refl, ◌∙◌}
use Rattle.std.specs.Arc.{arc_value}
use Rattle.std.specs.List.{AllByRecursion}
use Rattle.wh_filed.specs.Filed.{loaded_of}
use Rattle.wh_frame.specs.Partition.{Partition}
use Rattle.wh_state.specs.Orderly.{HasRisingRows}
use Rattle.wh_version.proofs.Steps.{one_on, all_on}
use Rattle.wh_table.specs.Rows.{partitions_at}
use Rattle.wh_table.proofs.StandingLaws.{each_more}
use Rattle.wh_table.proofs.gathering.at_hand.Goals as goal

pub loop-partition-preserved : goal.loop-partition-preserved
loop-partition-preserved c =
    let all = c.args.stored.now in
    let at = c.loop-partition in
    let a = c.partition-item.result in
    let now = partitions_at c.add.new.found.items in
    let added : now ≡ partitions_at at.found.items ++ arc_value a ∷ [] =
    c.in_ok-add.ensures.added ∙ ap (λ (p : Partition). partitions_at at.found.items ++ p ∷ []) c.deref.ensures in
    record {
      partitions = one_on (λ x. arc_value x ∷ []) loaded_of (λ x xs. refl) all at.partition-index a
          (partitions_at at.found.items) now (loaded_of all) c.loop-partition-test.true c.partition-item.is added
          at.invariant.partitions;
      rising = subst (AllByRecursion HasRisingRows) (sym c.in_ok-add.ensures.added)
          (each_more HasRisingRows (partitions_at at.found.items) (c.deref.result.now ∷ []) at.invariant.rising
          (c.in_ok-add.ensures.rising, tt));
    }

pub returns-clause-partitions : goal.returns-clause-partitions
returns-clause-partitions c =
    let all = c.args.stored.now in
    let at = c.loop-partition in
    all_on (λ a. arc_value a ∷ []) loaded_of refl all at.partition-index (partitions_at at.found.items)
    (loaded_of all) c.loop-partition-test.false at.invariant.partitions
