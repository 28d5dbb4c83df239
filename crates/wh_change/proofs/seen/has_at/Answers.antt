use Rattle.std.proofs.Common.{◌∙◌, ap, sym, arith}
use Rattle.std.proofs.lemmas.List.{length-map}
use Rattle.std.proofs.lemmas.List.Folds.{list_any_at}
use Rattle.wh_table.specs.Rows.{partitions_at}
use Rattle.wh_table.proofs.Chain.{pointed}
use Rattle.wh_change.specs.Seen.{has_number}
use Rattle.wh_change.proofs.seen.has_at.Goals as goal

pub returns-then-place-partitions : goal.returns-then-place-partitions
returns-then-place-partitions c = λ has.
    let partitions = c.args.partitions.now in
    let one = c.index-partitions-place.result in
    list_any_at (has_number c.args.number) (partitions_at partitions) c.args.place one.now
    (omega (arith, length-map partitions (λ p. p.now), c.if-place-partitions.true))
    (ap (has_number c.args.number) (sym (pointed partitions c.args.place one
    (omega (arith, c.if-place-partitions.true)) c.index-partitions-place.is))
    ∙ sym c.has_number.ensures ∙ has)
