use Rattle.std.proofs.Common.{◌≡◌, map, take}
use Rattle.wh_catalog.specs.Undoable.{object_in}
use Rattle.wh_catalog.specs.Object.{kept_object, object_of}
use Rattle.wh_refresh.specs.Objects.{objects_in, stored_in, objects_at}
use Rattle.wh_refresh.proofs.objects.all_objects.Given as goal

abbrev pub invariant-loop-object : goal.invariant-loop-object
invariant-loop-object l = record {
  objects : objects_in l.objects.items ≡ map object_of (take l.object-index l.object-items);
  stored : stored_in l.objects.items ≡ map (λ o. object_in (kept_object o)) (take l.object-index l.object-items);
  at : objects_at l.objects.items ≡ take l.object-index l.object-items;
}
