use Rattle.std.proofs.Common.{ℕ, ◌+◌, ◌<◌, ◌≤◌, ap, sym, length, arith}
use Rattle.std.proofs.lemmas.Bool.{le-leb, lt-leb}
use Rattle.wh_state.specs.Edits.{partitions_made}
use Rattle.wh_version.specs.Edits.{edits_in}
use Rattle.wh_version.specs.History.{versions_of, nexts_of, standing_in, next_in}
use Rattle.wh_version.proofs.history.History.rewrite.Goals as goal

pub returns-then-behind-bound-clause-fits : goal.returns-then-behind-bound-clause-fits
returns-then-behind-bound-clause-fits c held =
    let next : ℕ = next_in (nexts_of c.args.self.now) in
    let standing = standing_in (versions_of c.args.self.now) in
    let behind : ℕ = next + length (partitions_made next c.args.next_row (edits_in c.args.edits) standing) in
    let sized = c.in_ok-rewritten.rewritten.added.ok.0 in
    let made = ap length (c.in_ok-rewritten.ensures.added held) in
    let past : 4611686018427387904 < behind = omega (arith, c.next_partition.ensures.number, c.len.ensures) in
    sym (lt-leb behind 4611686018427387904 past)

pub returns-clause-fits : goal.returns-clause-fits
returns-clause-fits c held =
    let next : ℕ = next_in (nexts_of c.args.self.now) in
    let standing = standing_in (versions_of c.args.self.now) in
    let behind : ℕ = next + length (partitions_made next c.args.next_row (edits_in c.args.edits) standing) in
    let sized = c.in_ok-rewritten.rewritten.added.ok.0 in
    let made = ap length (c.in_ok-rewritten.ensures.added held) in
    let within : behind ≤ 4611686018427387904 = omega (arith, c.next_partition.ensures.number, c.len.ensures) in
    sym (le-leb behind 4611686018427387904 within)
