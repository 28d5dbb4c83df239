use Rattle.std.proofs.Common.{◌∷◌, [], refl}
use Rattle.wh_filed.specs.Filed.{partitions_at}
use Rattle.wh_version.specs.Lasting.{filed_in}
use Rattle.wh_version.proofs.Kept.{holds}
use Rattle.wh_version.proofs.Steps.{one_on, all_on}
use Rattle.wh_table.proofs.StandingLaws.{staying, staying_more}
use Rattle.wh_table.proofs.standing.standing_without.Goals as goal

pub loop-one-preserved : goal.loop-one-preserved
loop-one-preserved c =
    let removed = c.args.removed.now in
    let kept = c.args.kept.now in
    let at = c.loop-one in
    let k = c.one-item.result in
    let now = c.add_staying.new.found.items in
    record {
      partitions = one_on (λ k. staying removed (k ∷ [])) (staying removed) (staying_more removed) kept at.one-index k
          (partitions_at at.found.items) (partitions_at now) (staying removed kept)
          c.loop-one-test.true c.one-item.is c.in_ok-add_staying.ensures.added at.invariant.partitions;
      among = c.in_ok-add_staying.ensures.among (filed_in kept)
          (holds kept at.one-index k c.loop-one-test.true c.one-item.is) at.invariant.among;
    }

pub returns-clause-partitions : goal.returns-clause-partitions
returns-clause-partitions c =
    let removed = c.args.removed.now in
    let kept = c.args.kept.now in
    let at = c.loop-one in
    all_on (λ k. staying removed (k ∷ [])) (staying removed) refl kept at.one-index
    (partitions_at at.found.items) (staying removed kept) c.loop-one-test.false at.invariant.partitions
