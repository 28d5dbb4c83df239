use Rattle.wh_exec.specs.Source.{bag_in, filed_of}
use Rattle.wh_plan.proofs.ListLaws.{mapped_next, joined_next}
use Rattle.wh_decide.specs.Sources.{bag_seen, filed_by}
use Rattle.wh_decide.proofs.sources.sources_of.Goals as goal

pub loop-source-preserved : goal.loop-source-preserved
loop-source-preserved c = let at = c.loop-source in record {
  rows = mapped_next bag_in bag_seen c.args.seen.now at.source-index at.sources.items _ c.place.result
      c.source-item.result c.source-item.result c.loop-source-test.true c.source-item.is c.in_ok-push.ensures.items at.invariant.rows
      c.place.ensures.rows;
  filed = joined_next filed_of filed_by c.args.seen.now at.source-index at.sources.items _ c.place.result
      c.source-item.result c.source-item.result c.loop-source-test.true c.source-item.is c.in_ok-push.ensures.items at.invariant.filed
      c.place.ensures.filed;
}
