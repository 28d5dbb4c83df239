use Rattle.std.proofs.Common.{ap, length, arith}
use Rattle.wh_version.specs.Arrivals.{mark_place}
use Rattle.wh_version.specs.History.{versions_of, marks_of}
use Rattle.wh_version.proofs.ArrivalLaws.{count_versions, count_behind}
use Rattle.wh_version.proofs.history.History.count.Goals as goal

pub returns-then-self : goal.returns-then-self
unfolding versions_of
returns-then-self c =
    let h = c.args.self.now in
    let all = count_versions h.kept.items 0 (marks_of h) in
    let many = count_behind h.kept.items h.starts_empty h.first h.later.items in
    let less = ap (λ b. mark_place b (length (versions_of h))) c.if-self.true in
    omega (arith, all, many, less, c.mark_count-count.ensures)

pub returns : goal.returns
unfolding versions_of
returns c =
    let h = c.args.self.now in
    let all = count_versions h.kept.items 0 (marks_of h) in
    let many = count_behind h.kept.items h.starts_empty h.first h.later.items in
    let same = ap (λ b. mark_place b (length (versions_of h))) c.if-self.false in
    omega (arith, all, many, same, c.mark_count-count.ensures)
