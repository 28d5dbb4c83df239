use Rattle.std.proofs.Common.{List, ◌++◌, ap}
use denote.Ref.{Bor}
use Rattle.wh_exec.specs.Source.{parts_bag, bag_in, filed_of}
use Rattle.wh_filed.specs.Filed.{Filed, filed_at, partitions_at}
use Rattle.wh_plan.proofs.ListLaws.{mapped_next, joined_next}
use Rattle.wh_delta.specs.Moved.{view_of}
use Rattle.wh_refresh.specs.Sources.{bag_held, filed_by, view_held}
use Rattle.wh_refresh.proofs.sources.sources_of.Goals as goal

pub loop-source-preserved : goal.loop-source-preserved
loop-source-preserved c = let at = c.loop-source in record {
  rows = mapped_next bag_in bag_held c.args.held.now at.source-index at.sources.items _ _
      c.source-item.result c.source-item.result c.loop-source-test.true c.source-item.is c.in_ok-push.ensures.items
      at.invariant.rows (ap (λ (fs : List (Bor Filed)). parts_bag (partitions_at fs ++ c.source-item.result.made.now))
      c.deref.ensures.value);
  filed = joined_next filed_of filed_by c.args.held.now at.source-index at.sources.items _ _
      c.source-item.result c.source-item.result c.loop-source-test.true c.source-item.is c.in_ok-push.ensures.items
      at.invariant.filed (ap filed_at c.deref.ensures.value);
  views = mapped_next view_of view_held c.args.held.now at.source-index at.sources.items _ _
      c.source-item.result c.source-item.result c.loop-source-test.true c.source-item.is c.in_ok-push.ensures.items
      at.invariant.views (ap (λ (fs : List (Bor Filed)). (filed_at fs, parts_bag c.source-item.result.made.now))
      c.deref.ensures.value);
}
