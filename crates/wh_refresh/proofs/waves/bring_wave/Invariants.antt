use Rattle.std.proofs.Common.{◌≡◌, ℕ, List, take}
use Rattle.wh_filed.specs.Fetching.{AllShownBy, AllCovered}
use Rattle.wh_machine.specs.Refresh as machine
use Rattle.wh_machine.specs.Brought.{RiseAbove}
use Rattle.wh_waves.specs.Settled.{Settled, AreReady}
use Rattle.wh_refresh.specs.Objects.{objects_in, stored_in, filed_at_objects}
use Rattle.wh_refresh.specs.Brought.{AreBrought}
use Rattle.wh_refresh.specs.Standing.{AllStand}
use Rattle.wh_refresh.specs.Asked.{ids_of, IsFiledIn, AsksOfAll}
use Rattle.wh_refresh.specs.Waves.{put_all, MoreBrought, AllCounted}
use Rattle.wh_refresh.proofs.waves.bring_wave.Given as goal

abbrev pub invariant-loop-id : goal.invariant-loop-id
invariant-loop-id g l = record {
  covered : AllCovered (g.F.Fetch.covers l.fetch) (filed_at_objects l.objects);
  brought : AllShownBy (g.F.Fetch.contents l.fn.fetch) (filed_at_objects l.objects)
      → AllStand (objects_in l.objects) → (stamp : ℕ) (ids : List ℕ) (bs : List machine.Brought) → RiseAbove 0 ids
      → AreBrought (stored_in l.objects) l.fn.brought.items bs
      → Settled stamp l.moment (objects_in l.objects) ids bs
      → AreReady (objects_in l.objects) ids bs l.wave
      → MoreBrought l.objects stamp l.moment ids bs (take l.id-index l.wave) l.brought.items;
  ids : ids_of l.brought.items ≡ put_all (take l.id-index l.wave) (ids_of l.fn.brought.items);
  counted : AllCounted l.objects l.brought.items → AllCounted l.objects l.fn.brought.items;
  asks : AllCounted l.objects l.brought.items
      → AsksOfAll (IsFiledIn l.objects (ids_of l.brought.items)) l.objects l.moment (take l.id-index l.wave)
      (g.F.Fetch.asked l.fn.fetch) (g.F.Fetch.asked l.fetch);
  sound : AllShownBy (g.F.Fetch.contents l.fn.fetch) (filed_at_objects l.objects)
      → g.F.Fetch.damage l.fetch ≡ g.F.Fetch.damage l.fn.fetch;
  same : g.F.Fetch.contents l.fetch ≡ g.F.Fetch.contents l.fn.fetch;
  goes : g.F.Fetch.stays l.fn.fetch l.fetch;
  faults : g.F.Fetch.faults l.fetch ≡ g.F.Fetch.faults l.fn.fetch;
}
