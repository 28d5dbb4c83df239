use Rattle.std.proofs.Common.{◌≡◌, ℕ, ◌+◌, List, [], ◌++◌, ◌∙◌, length, ap, sym, subst, arith}
use Rattle.std.proofs.lemmas.List.{drop_all}
use Rattle.std.specs.FinMap.{entries}
use Rattle.std.specs.Prelude.{if◌then◌else◌}
use Rattle.wh_filed.specs.Filed.{loaded_of}
use Rattle.wh_net.specs.Net.{RowChange, is_between}
use Rattle.wh_state.specs.Stored.{rows_of}
use Rattle.wh_table.specs.Rows.{all_rows, partitions_at}
use Rattle.wh_change.specs.Appended.{arrived_of, came_in}
use Rattle.wh_change.specs.RowChange.{row_changes_of}
use Rattle.wh_change.specs.Seen.{appeared}
use Rattle.wh_change.proofs.CameLaws.{begun, turned, came_to, apart_at, arrived_in, loaded_length}
use Rattle.wh_change.proofs.LoadedLaws.{holds_alone}
use Rattle.wh_change.proofs.Walking.{Walked, walk_ends}
use Rattle.wh_change.proofs.appending.appends.Goals as goal

pub loop-arrived-init : goal.loop-arrived-init
loop-arrived-init c versions is =
    let found = c.args.appended.now in
    let asked = came_in (arrived_of found.later.items) in
    let front : is.count ≡ is.count + 0 = omega arith in
    let seen : loaded_of found.seen.items ≡ partitions_at c.of-seen.result.partitions.items =
    sym (ap partitions_at c.of-seen.ensures ∙ c.in_ok-at_hand.ensures ∙ ap loaded_of c.deref.ensures.value) in
    subst (λ (n : ℕ). Walked c.args.from c.args.to versions asked n (row_changes_of c.new-records.result.items)
    (partitions_at c.of-seen.result.partitions.items)) front
    (subst (λ (records : List RowChange). Walked c.args.from c.args.to versions asked is.count records
    (partitions_at c.of-seen.result.partitions.items)) (sym (ap row_changes_of c.new-records.ensures.items))
    (subst (Walked c.args.from c.args.to versions asked is.count []) seen
    (begun c.args.from c.args.to is.count versions asked (loaded_of found.seen.items) is.front is.is_front is.seen)))

pub loop-arrived-preserved : goal.loop-arrived-preserved
loop-arrived-preserved c versions is =
    let at = c.loop-arrived in
    let later = c.args.appended.now.later.items in
    let one = c.arrived-item.result in
    let came = loaded_of one.came.items in
    let place = arrived_in later c.deref-arrived-items.result.now at.arrived-index one
    c.deref-arrived-items.ensures.value c.loop-arrived-test.true c.arrived-item.is in
    let apart = apart_at is.count (length versions) (arrived_of later) at.arrived-index _ versions is.came place.0
    place.1 in
    let sorted : all_rows (partitions_at c.in_ok-came.came.items) ≡ entries (rows_of came) =
    c.in_ok-came.ensures.rows (rows_of came)
    (holds_alone came _ (ap loaded_of c.deref-in-loop-arrived.ensures.value) apart) in
    turned c.args.from c.args.to versions (arrived_of later) is.count (length versions) at.arrived-index _
    (one.stamp, came) (row_changes_of at.records.items) (row_changes_of c.add_appended.new.records.items)
    (partitions_at at.seen.partitions.items) (partitions_at c.in_ok-came.came.items)
    (partitions_at c.see.new.seen.partitions.items) is.came place.0 place.1 (omega arith) sorted
    (c.in_ok-add_appended.ensures ∙ ap (λ ps. row_changes_of at.records.items
    ++ (if is_between c.args.from c.args.to one.stamp
    then appeared (partitions_at at.seen.partitions.items) (all_rows (partitions_at ps)) else []))
    c.deref-in-loop-arrived-2.ensures.value)
    (c.in_ok-see.ensures ∙ ap (λ ps. partitions_at at.seen.partitions.items ++ partitions_at ps)
    c.deref-in-loop-arrived-3.ensures.value)
    (at.invariant versions is)

pub returns : goal.returns
returns c versions is =
    let at = c.loop-arrived in
    let later = c.args.appended.now.later.items in
    let last = came_to is.count (length versions) (arrived_of later) versions is.came in
    let place = is.count + at.arrived-index in
    let same = loaded_length later c.deref-arrived-items.result.now c.deref-arrived-items.ensures.value in
    walk_ends c.args.from c.args.to versions (came_in (arrived_of later)) place
    (row_changes_of at.records.items) (partitions_at at.seen.partitions.items) (at.invariant versions is)
    (drop_all place versions (omega (arith, last, same, c.loop-arrived-test.false)))
