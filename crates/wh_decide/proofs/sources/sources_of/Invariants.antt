use Rattle.std.proofs.Common.{◌≡◌, take}
use Rattle.wh_exec.specs.Source.{filed_in, instance_in}
use Rattle.wh_decide.specs.Sources.{bags_seen, filed_seen}
use Rattle.wh_decide.proofs.sources.sources_of.Given as goal

abbrev pub invariant-loop-source : goal.invariant-loop-source
invariant-loop-source l = record {
  rows : instance_in l.sources.items ≡ bags_seen (take l.source-index l.seen);
  filed : filed_in l.sources.items ≡ filed_seen (take l.source-index l.seen);
}
