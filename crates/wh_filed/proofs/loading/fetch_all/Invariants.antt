use Rattle.std.proofs.Common.{◌≡◌, take, Contains}
use Rattle.wh_filed.specs.Filed.{filed_at, partitions_at, loaded_of}
use Rattle.wh_filed.specs.Fetching.{AllShownBy, AllCovered}
use Rattle.wh_filed.specs.Asking.{AsksFor}
use Rattle.wh_filed.proofs.loading.fetch_all.Given as goal

abbrev pub invariant-loop-one : goal.invariant-loop-one
invariant-loop-one g l = record {
  covered : AllCovered (g.F.Fetch.covers l.fetch) (filed_at l.filed);
  loaded : AllShownBy (g.F.Fetch.contents l.fn.fetch) (filed_at l.filed)
      → loaded_of l.loaded.items ≡ partitions_at (take l.one-index l.filed);
  sound : AllShownBy (g.F.Fetch.contents l.fn.fetch) (filed_at l.filed)
      → g.F.Fetch.damage l.fetch ≡ g.F.Fetch.damage l.fn.fetch;
  asks : AsksFor (Contains (filed_at l.filed)) (g.F.Fetch.asked l.fn.fetch) (g.F.Fetch.asked l.fetch);
  same : g.F.Fetch.contents l.fetch ≡ g.F.Fetch.contents l.fn.fetch;
  goes : g.F.Fetch.stays l.fn.fetch l.fetch;
  counted : g.F.Fetch.faults l.fetch ≡ g.F.Fetch.faults l.fn.fetch;
}
