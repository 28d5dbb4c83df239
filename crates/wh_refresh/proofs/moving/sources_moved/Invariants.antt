use Rattle.std.proofs.Common.{take, Contains}
use Rattle.std.specs.List.{AllByRecursion}
use Rattle.wh_refresh.specs.Objects.{objects_in, filed_at_objects}
use Rattle.wh_refresh.specs.Sources.{bags_held, filed_held, AllTurn}
use Rattle.wh_refresh.specs.Asked.{AllMoved}
use Rattle.wh_refresh.proofs.moving.sources_moved.Given as goal

abbrev pub invariant-loop-id : goal.invariant-loop-id
invariant-loop-id l = record {
  turns : AllTurn (objects_in l.objects) l.from l.to (take l.id-index l.ids) (bags_held l.came.items)
      (bags_held l.went.items);
  moves : AllMoved l.objects l.from l.to (take l.id-index l.ids) l.came.items l.went.items;
  came : AllByRecursion (Contains (filed_at_objects l.objects)) (filed_held l.came.items);
  went : AllByRecursion (Contains (filed_at_objects l.objects)) (filed_held l.went.items);
}
