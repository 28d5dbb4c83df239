use Rattle.std.proofs.Common.{◌≡◌, length}
use Rattle.std.specs.Vec.Iter.{into_iter_items, into_iter_len}
use Rattle.wh_maintenance.specs.Entries.{set_all}
use Rattle.wh_group.specs.Slots.{slots_of, kept_groups, put_slots}
use Rattle.wh_group.proofs.groups.Groups.set_each.Given as goal

abbrev pub invariant-loop-entry : goal.invariant-loop-entry
invariant-loop-entry l = record {
  sets : set_all (into_iter_items l.entry-iterator) (kept_groups l.self)
      ≡ set_all l.fn.entries.items (kept_groups l.fn.self);
  back : slots_of l.fn.self ≡ put_slots l.was.items (slots_of l.self);
  count : into_iter_len l.entry-iterator ≡ length (into_iter_items l.entry-iterator);
}
