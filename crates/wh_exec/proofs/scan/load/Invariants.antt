use Rattle.std.proofs.Common.{◌≡◌, take}
use Rattle.wh_filed.specs.Filed.{filed_at, partitions_at, loaded_of}
use Rattle.wh_filed.specs.Fetching.{AllShownBy, AllCovered}
use Rattle.wh_filed.specs.Asking.{names_at, AsksAmong}
use Rattle.wh_exec.proofs.PartLaws.{meant}
use Rattle.wh_exec.proofs.scan.load.Given as goal

abbrev pub invariant-loop-one : goal.invariant-loop-one
invariant-loop-one g l = record {
  covered : AllCovered (g.F.Fetch.covers l.fetch) (filed_at l.filed);
  loaded : AllShownBy (g.F.Fetch.contents l.initial.fetch) (filed_at l.filed)
      → meant l.steps (loaded_of l.loaded.items) ≡ meant l.steps (take l.one-index (partitions_at l.filed));
  sound : AllShownBy (g.F.Fetch.contents l.initial.fetch) (filed_at l.filed)
      → g.F.Fetch.damage l.fetch ≡ g.F.Fetch.damage l.initial.fetch;
  asks : AsksAmong (take l.one-index (names_at l.filed)) (g.F.Fetch.asked l.initial.fetch) (g.F.Fetch.asked l.fetch);
  same : g.F.Fetch.contents l.fetch ≡ g.F.Fetch.contents l.initial.fetch;
  goes : g.F.Fetch.stays l.initial.fetch l.fetch;
  counted : g.F.Fetch.faults l.fetch ≡ g.F.Fetch.faults l.initial.fetch;
}
