use Rattle.std.proofs.Common.{◌≡◌, ◌+◌, None, drop}
use Rattle.wh_moment.specs.Moment.{due_among, ids_from}
use Rattle.wh_dynamic.specs.View.{dynamics_in, due_of}
use Rattle.wh_dynamic.proofs.due.due_table.Given as goal

abbrev pub invariant-loop-table : goal.invariant-loop-table
invariant-loop-table l =
    (due_among (dynamics_in l.all) l.stamp (due_of l.found) (ids_from (l.id + 1) (dynamics_in (drop l._table-index l.all)))
    ≡ due_among (dynamics_in l.all) l.stamp None (ids_from 1 (dynamics_in l.all))) × (l.id ≡ l._table-index)
