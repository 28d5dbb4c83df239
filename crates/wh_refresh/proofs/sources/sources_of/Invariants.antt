use Rattle.std.proofs.Common.{◌≡◌, take}
use Rattle.wh_exec.specs.Source.{filed_in, instance_in}
use Rattle.wh_delta.specs.Moved.{views_of}
use Rattle.wh_refresh.specs.Sources.{bags_held, filed_held, views_held}
use Rattle.wh_refresh.proofs.sources.sources_of.Given as goal

abbrev pub invariant-loop-source : goal.invariant-loop-source
invariant-loop-source l = record {
  rows : instance_in l.sources.items ≡ bags_held (take l.source-index l.held);
  filed : filed_in l.sources.items ≡ filed_held (take l.source-index l.held);
  views : views_of l.sources.items ≡ views_held (take l.source-index l.held);
}
