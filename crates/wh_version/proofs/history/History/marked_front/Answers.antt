use Rattle.std.proofs.Common.{◌≡◌, ℕ, suc, ◌+◌, ◌<◌, ◌≤◌}
use Rattle.std.proofs.Common.{ap, sym, subst, length, get_or, arith}
use Rattle.wh_version.specs.declared.history.History.{History}
use Rattle.wh_version.specs.declared.mark.VersionMark.{VersionMark}
use Rattle.wh_filed.specs.Filed.{filed_at, partitions_at}
use Rattle.wh_version.specs.History.{marks_of}
use Rattle.wh_version.proofs.ArrivalLaws.{count_versions, before_grows}
use Rattle.wh_version.proofs.FrontLaws.{FrontUpTo, Grown, grown_on, front_longer, front_ends}
use Rattle.wh_version.proofs.Kept.{among_more}
use Rattle.wh_version.proofs.LastUpTo.{mark_within}
use Rattle.wh_version.proofs.history.History.marked_front.Goals as goal
use Rattle.wh_version.proofs.history.History.marked_front.Goals.{After-mark-mark}

pub mark-mark-requires : goal.mark-mark-requires
mark-mark-requires c =
    let h = c.args.self.now in
    let many = count_versions h.kept.items 0 (marks_of h) in
    omega (arith, c.loop-place-test.true, c.mark_count-count.ensures, many)

module _ (c : After-mark-mark) where
  abbrev h : History
  h = c.args.self.now

  abbrev mark : VersionMark
  mark = get_or (marks_of h) c.loop-place.place h.first

  within : c.loop-place.place < length (marks_of h)
  within =
      let many = count_versions h.kept.items 0 (marks_of h) in
      omega (arith, c.loop-place-test.true, c.mark_count-count.ensures, many)

  counted : c.mark-mark.result.partitions ≡ mark.partitions
  counted = ap (λ (m : VersionMark). m.partitions) c.mark-mark.ensures

  -- it counts no more partitions than there are
  few : c.mark-mark.result.partitions ≤ length h.kept.items
  few =
      omega (arith, counted, mark_within 0 (marks_of h) (length h.kept.items) c.loop-place.place h.first h.marks within)

pub returns-then-stamp-mark-clause-came : goal.returns-then-stamp-mark-clause-came
returns-then-stamp-mark-clause-came c =
    let m = (goal.at.returns-then-stamp-mark-clause-came c).After-mark-mark in
    let at = c.loop-place in
    front_ends c.args.stamp (h m).kept.items (marks_of (h m)) (h m).first at.place at.before
    (partitions_at at.came.items) (within m)
    (subst (λ (m : VersionMark). c.args.stamp < m.stamp) c.mark-mark.ensures c.if-stamp-mark.true) at.invariant.0

pub index-requires : goal.index-requires
index-requires c = omega (arith, c.loop-index-test.true, few (goal.at.index-requires c).After-mark-mark)

pub put_standing-requires : goal.put_standing-requires
put_standing-requires c =
    let few = few (goal.at.put_standing-requires c).After-mark-mark in
    omega (arith, c.loop-index-test.true, few, c.loop-index.invariant.1, c.loop-index.invariant.2)

pub loop-index-preserved : goal.loop-index-preserved
loop-index-preserved c =
    let at = c.loop-index in
    let few = few (goal.at.loop-index-preserved c).After-mark-mark in (
      grown_on c.args.self.now.kept.items c.loop-place.place c.loop-place.before at.index c.index.result.now
          (partitions_at c.loop-place.came.items) (partitions_at at.came.items)
          (partitions_at c.put_standing.new.found.items) (omega (arith, c.loop-index-test.true, few))
          c.index.ensures c.put_standing.ensures.items at.invariant.0,
      omega (arith, c.put_standing.ensures.length, at.invariant.1),
      omega (arith, c.put_standing.ensures.capacity, at.invariant.2),
      among_more c.args.self.now.kept.items at.index c.index.result.now (filed_at at.came.items)
          (filed_at c.put_standing.new.found.items) (omega (arith, c.loop-index-test.true, few)) c.index.ensures
          c.put_standing.ensures.among at.invariant.3,
    )

pub loop-place-preserved : goal.loop-place-preserved
loop-place-preserved c =
    let m = (goal.at.loop-place-preserved c).After-mark-mark in
    let h = h m in
    let at = c.loop-place in
    let is_mark = c.mark-mark.ensures in
    let partitions = counted m in
    let grows = before_grows (marks_of h) (length h.kept.items) at.place h.first h.marks (within m) in
    let last : c.loop-index.index ≡ (mark m).partitions =
    omega (arith, c.loop-index-test.false, c.loop-index.auto.index-end, grows, at.invariant.0.before_is, partitions) in
    let now = partitions_at c.loop-index.came.items in
    let longer = front_longer c.args.stamp h.kept.items (marks_of h) h.first at.place at.before
    (partitions_at at.came.items) now (within m)
    (subst (λ (m : VersionMark). m.stamp ≤ c.args.stamp) is_mark c.if-stamp-mark.false)
    (subst (λ index. Grown h.kept.items at.place at.before index (partitions_at at.came.items) now) last
    c.loop-index.invariant.0) at.invariant.0 in
    let Longer : ℕ → VersionMark → Type 0 =
    λ place m. FrontUpTo c.args.stamp h.kept.items (marks_of h) h.first place m.partitions now in
    let more : suc at.place ≡ at.place + 1 = omega arith in (
      subst (λ place. Longer place c.mark-mark.result) more (subst (Longer (suc at.place)) (sym is_mark) longer),
      omega (arith, c.loop-index.invariant.1, last, partitions),
      c.loop-index.invariant.2,
      c.loop-index.invariant.3,
    )
