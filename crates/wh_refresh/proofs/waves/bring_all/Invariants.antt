use Rattle.std.proofs.Common.{◌≡◌, ℕ, [], take}
use Rattle.wh_filed.specs.Fetching.{AllShownBy, AllCovered}
use Rattle.wh_waves.specs.Waves.{all_in, waves_in}
use Rattle.wh_refresh.specs.Objects.{objects_in, filed_at_objects}
use Rattle.wh_refresh.specs.Standing.{AllStand}
use Rattle.wh_refresh.specs.Asked.{ids_of, IsFiledIn, AsksOfAll}
use Rattle.wh_refresh.specs.Waves.{put_all, WavesBrought, AllCounted}
use Rattle.wh_refresh.proofs.waves.bring_all.Given as goal

abbrev pub invariant-loop-wave : goal.invariant-loop-wave
invariant-loop-wave g l = record {
  covered : AllCovered (g.F.Fetch.covers l.fetch) (filed_at_objects l.objects);
  brought : AllShownBy (g.F.Fetch.contents l.fn.fetch) (filed_at_objects l.objects)
      → AllStand (objects_in l.objects) → (stamp : ℕ)
      → WavesBrought l.objects stamp l.moment l.ids (take l.wave-index (waves_in l.wave-items)) l.brought.items;
  ids : ids_of l.brought.items ≡ put_all (all_in (take l.wave-index (waves_in l.wave-items))) [];
  asks : AllCounted l.objects l.brought.items
      → AsksOfAll (IsFiledIn l.objects (ids_of l.brought.items)) l.objects l.moment
      (all_in (take l.wave-index (waves_in l.wave-items))) (g.F.Fetch.asked l.fn.fetch) (g.F.Fetch.asked l.fetch);
  sound : AllShownBy (g.F.Fetch.contents l.fn.fetch) (filed_at_objects l.objects)
      → g.F.Fetch.damage l.fetch ≡ g.F.Fetch.damage l.fn.fetch;
  same : g.F.Fetch.contents l.fetch ≡ g.F.Fetch.contents l.fn.fetch;
  goes : g.F.Fetch.stays l.fn.fetch l.fetch;
  faults : g.F.Fetch.faults l.fetch ≡ g.F.Fetch.faults l.fn.fetch;
}
