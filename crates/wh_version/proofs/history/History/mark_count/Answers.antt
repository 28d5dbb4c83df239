use Rattle.std.proofs.Common.{arith}
use Rattle.wh_version.specs.History.{marks_of}
use Rattle.wh_version.proofs.ArrivalLaws.{count_versions}
use Rattle.wh_version.proofs.history.History.mark_count.Goals as goal

pub returns : goal.returns
returns c =
    let h = c.args.self.now in
    let many = count_versions h.kept.items 0 (marks_of h) in
    omega (arith, many, c.len.ensures)
