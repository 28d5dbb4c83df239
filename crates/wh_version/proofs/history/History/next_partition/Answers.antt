use Rattle.std.proofs.Common.{◌+◌, ◌∙◌, ap, sym, length, arith}
use Rattle.wh_version.specs.History.{nexts_of}
use Rattle.wh_version.proofs.Last.{next_last, counts_all}
use Rattle.wh_version.proofs.history.History.next_partition.Goals as goal

pub returns-clause-number : goal.returns-clause-number
unfolding nexts_of
returns-clause-number c =
    let h = c.args.self.now in
    let last = next_last h.first h.later.items in
    let count = counts_all 0 h.first h.later.items (length h.kept.items) h.marks in
    let sized = h.kept.ok.0 in
    ap (λ n. n + 1) (omega (arith, c.len.ensures)) ∙ sym last
