use Rattle.std.proofs.Common.{◌≡◌, ◌++◌}
use Rattle.std.proofs.Common.{◌∙◌, ap, sym, subst, List, length, take, drop, get_or, arith}
use Rattle.wh_version.specs.declared.mark.VersionMark.{VersionMark}
use Rattle.wh_version.specs.Arrivals.{IsArrival, partitions_before}
use Rattle.wh_filed.specs.Filed.{filed_at, partitions_at, AreAmong}
use Rattle.wh_version.specs.History.{marked_of, marks_of}
use Rattle.wh_version.specs.declared.lasting.Lasting.{Lasting}
use Rattle.wh_version.specs.Lasting.{filed_in, stands_at, standing_filed, standing_at}
use Rattle.wh_version.proofs.Among.{told_held, behind_held}
use Rattle.wh_version.proofs.ArrivalLaws.{before_grows, arrived}
use Rattle.wh_version.proofs.Kept.{joined}
use Rattle.wh_version.proofs.LastUpTo.{mark_within}
use Rattle.wh_version.proofs.history.History.came_with.Goals as goal

pub standing_behind-requires-clause-order : goal.standing_behind-requires-clause-order
standing_behind-requires-clause-order c =
    let h = c.args.self.now in
    let grows = before_grows (marks_of h) (length h.kept.items) c.args.place h.first h.marks c.requires in
    omega (arith, grows, c.partitions_before.ensures, ap (λ (m : VersionMark). m.partitions) c.mark-mark.ensures)

pub standing_behind-requires-clause-within : goal.standing_behind-requires-clause-within
standing_behind-requires-clause-within c =
    let h = c.args.self.now in
    let few = mark_within 0 (marks_of h) (length h.kept.items) c.args.place h.first h.marks c.requires in
    omega (arith, few, ap (λ (m : VersionMark). m.partitions) c.mark-mark.ensures, ap length c.deref.ensures.value)

pub returns-clause-came : goal.returns-clause-came
returns-clause-came c =
    let h = c.args.self.now in
    let place = c.args.place in
    let came = partitions_at c.in_ok-came.came.items in
    let mark = c.mark-mark.ensures in
    let behind : standing_at place (take (partitions_before (marks_of h) h.first place) h.kept.items) ++ came
    ≡ standing_at place (take (get_or (marks_of h) place h.first).partitions h.kept.items) =
    (λ i. standing_at place (take (sym c.partitions_before.ensures i) (sym c.deref.ensures.value i)) ++ came)
    ∙ joined (standing_filed place (take c.partitions_before.result c.deref.result.now))
    (filed_at c.in_ok-came.came.items) _ c.in_ok-came.ensures
    ∙ (λ i. standing_at place (take (mark i).partitions (c.deref.ensures.value i))) in
    subst (λ (m : VersionMark). IsArrival m.stamp came (take place (marked_of h)) (drop place (marked_of h)))
    (sym mark) (arrived h.kept.items (marks_of h) h.first place came c.requires behind)

pub returns-clause-among : goal.returns-clause-among
returns-clause-among c =
    let place = c.args.place in
    let came = filed_at c.in_ok-came.came.items in
    let kept = c.deref.result.now in
    subst (λ (ks : List Lasting). AreAmong came (filed_in ks)) c.deref.ensures.value
    (told_held came (filed_in kept) (behind_held (stands_at place) c.mark-mark.result.partitions kept
    (standing_filed place (take c.partitions_before.result kept)) came c.in_ok-came.ensures))
