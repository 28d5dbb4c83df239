use Rattle.std.proofs.Common.{◌≡◌, ◌≤◌, ◌-◌, length, take}
use Rattle.wh_filed.specs.Filed.{filed_at, partitions_at}
use Rattle.wh_filed.specs.Fetching.{AllShownBy, AllCovered}
use Rattle.wh_filed.specs.Asking.{names_at, AsksAmong}
use Rattle.wh_exec.specs.Sink.{Takes}
use Rattle.wh_exec.proofs.PartLaws.{meant}
use Rattle.wh_exec.proofs.scan.scan_filed.Given as goal

abbrev pub decreases-loop-at : goal.decreases-loop-at
decreases-loop-at g l = length l.filed - l.at

abbrev pub invariant-loop-at : goal.invariant-loop-at
invariant-loop-at g l = record {
  within : l.at ≤ length l.filed;
  covered : AllCovered (g.F.Fetch.covers l.fetch) (filed_at l.filed);
  fed : AllShownBy (g.F.Fetch.contents l.initial.fetch) (filed_at l.filed)
      → Takes l.initial.sink l.sink (meant l.steps (take l.at (partitions_at l.filed)));
  sound : AllShownBy (g.F.Fetch.contents l.initial.fetch) (filed_at l.filed)
      → g.F.Fetch.damage l.fetch ≡ g.F.Fetch.damage l.initial.fetch;
  asks : AsksAmong (take l.at (names_at l.filed)) (g.F.Fetch.asked l.initial.fetch) (g.F.Fetch.asked l.fetch);
  same : g.F.Fetch.contents l.fetch ≡ g.F.Fetch.contents l.initial.fetch;
  goes : g.F.Fetch.stays l.initial.fetch l.fetch;
  counted : g.F.Fetch.faults l.fetch ≡ g.F.Fetch.faults l.initial.fetch;
}
