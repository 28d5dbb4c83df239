use Rattle.std.proofs.Common.{◌≡◌, ℕ, List, take, Contains}
use Rattle.std.specs.List.{AllByRecursion}
use Rattle.wh_state.specs.Moments.{instance_at}
use Rattle.wh_machine.specs.Refresh.{Brought}
use Rattle.wh_machine.specs.Brought.{after_all, AreAbove}
use Rattle.wh_refresh.specs.Objects.{objects_in, stored_in, filed_at_objects}
use Rattle.wh_refresh.specs.Brought.{AreBrought}
use Rattle.wh_refresh.specs.Sources.{bags_held, filed_held, AreParts}
use Rattle.wh_refresh.specs.Asked.{ids_of, AllStanding}
use Rattle.wh_refresh.proofs.sources.sources_held.Given as goal

abbrev pub invariant-loop-id : goal.invariant-loop-id
invariant-loop-id l = record {
  held : (stamp : ℕ) (bs : List Brought) → AreBrought (stored_in l.objects) l.brought bs → AreAbove 0 bs
      → bags_held l.sources.items
      ≡ instance_at (after_all stamp l.moment bs (objects_in l.objects)) l.moment (take l.id-index l.ids);
  among : AllByRecursion (Contains (filed_at_objects l.objects)) (filed_held l.sources.items);
  stand : AllStanding l.objects (ids_of l.brought) l.moment (take l.id-index l.ids) l.sources.items;
  parts : (bs : List Brought) → AreBrought (stored_in l.objects) l.brought bs
      → AreParts l.objects (take l.id-index l.ids) l.sources.items;
}
