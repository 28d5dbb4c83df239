use Rattle.std.proofs.Common.{Option, sym, subst}
use Rattle.wh_filed.specs.Filed.{partitions_at}
use Rattle.wh_meaning.specs.Bag.{Bag}
use Rattle.wh_exec.specs.Sink.{Lacks, FeedsAs}
use Rattle.wh_exec.proofs.PartLaws.{meant, meant-behind}
use Rattle.wh_exec.proofs.SinkLaws.{lacks_first, pours_on, fed_as}
use Rattle.wh_exec.proofs.scan.scan_parts.Goals as goal

pub returns-in_default-clause-feeds : goal.returns-in_default-clause-feeds
returns-in_default-clause-feeds g c all =
    let parts = c.args.parts.now in
    let steps = c.args.steps.now in
    subst (λ (found : Option Bag). Lacks c.args.sink.now found)
    (sym (meant-behind steps (partitions_at parts.filed.now) parts.made.now))
    (lacks_first (meant steps parts.made.now) ((rw c.in_default.is at c.in_ok-scan_filed.ensures.feeds) all))

pub returns-clause-feeds : goal.returns-clause-feeds
returns-clause-feeds g c all =
    let parts = c.args.parts.now in
    let steps = c.args.steps.now in
    subst (λ (found : Option Bag). FeedsAs c.in_ok-defined.field-0 c.args.sink.now c.pour_parts.new.sink found)
    (sym (meant-behind steps (partitions_at parts.filed.now) parts.made.now))
    (fed_as _ _ _ c.pour_parts.result c.in_ok-defined.field-0 c.in_ok-defined.ensures
    (pours_on _ _ _ _ _ c.pour_parts.result ((rw c.in-Some.is at c.in_ok-scan_filed.ensures.feeds) all)
    c.pour_parts.ensures))
