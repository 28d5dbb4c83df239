use Rattle.std.proofs.Common.{◌≡◌, ◌++◌, map, length, None}
use Rattle.std.specs.Vec.Iter.{into_iter_items, into_iter_len}
use Rattle.wh_state.specs.Commit.{AllApply, all_changed, GroupsFollow}
use Rattle.wh_filed.specs.Filed.{AreAmong}
use Rattle.wh_record.specs.View.{change_of}
use Rattle.wh_record.specs.Places.{filed_in_changes}
use Rattle.wh_catalog.specs.Catalog.{kept_of, objects_of, filed_of}
use Rattle.wh_catalog.specs.Undo.{undone}
use Rattle.wh_catalog.proofs.catalog.Catalog.carry_out_all.Given as goal

abbrev pub invariant-loop-change : goal.invariant-loop-change
invariant-loop-change l = record {
  apply : AllApply l.stamp (objects_of l.self) (map change_of (into_iter_items l.change-iterator))
      → AllApply l.stamp (objects_of l.initial.self) (map change_of (into_iter_items l.initial.change-iterator));
  applied : AllApply l.stamp (objects_of l.initial.self) (map change_of (into_iter_items l.initial.change-iterator))
      → AllApply l.stamp (objects_of l.self) (map change_of (into_iter_items l.change-iterator));
  follow : GroupsFollow l.stamp (objects_of l.self) l.due (map change_of (into_iter_items l.change-iterator))
      → GroupsFollow l.stamp (objects_of l.initial.self) None
      (map change_of (into_iter_items l.initial.change-iterator));
  followed : GroupsFollow l.stamp (objects_of l.initial.self) None
      (map change_of (into_iter_items l.initial.change-iterator))
      → GroupsFollow l.stamp (objects_of l.self) l.due (map change_of (into_iter_items l.change-iterator));
  changed : all_changed l.stamp (objects_of l.self) (map change_of (into_iter_items l.change-iterator))
      ≡ all_changed l.stamp (objects_of l.initial.self) (map change_of (into_iter_items l.initial.change-iterator));
  filed : AreAmong (filed_of l.self ++ filed_in_changes l.at (map change_of (into_iter_items l.change-iterator)))
      (filed_of l.initial.self ++ filed_in_changes l.first (map change_of (into_iter_items l.initial.change-iterator)));
  back : undone l.steps.items (kept_of l.self) ≡ kept_of l.initial.self;
  count : into_iter_len l.change-iterator ≡ length (into_iter_items l.change-iterator);
  last : l.self.last ≡ l.initial.self.last;
  committed : l.self.committed ≡ l.initial.self.committed;
}
