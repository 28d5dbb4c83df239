use Rattle.std.proofs.Common.{arith}
use Rattle.std.proofs.lemmas.List.{length-map}
use Rattle.wh_part.specs.View.{numbered_of}
use Rattle.wh_part.proofs.PartitionLaws.{rows_read}
use Rattle.wh_part.proofs.partition.Partition.read_over.Goals as goal

pub make-requires : goal.make-requires
make-requires c =
    let rows = rows_read c.args.width c.args.bytes.now c.in_ok-number.number c.in_ok-number.rest.now _
    c.in_ok-rows.rest.now (λ i. omega (arith, c.type_inv.bytes i)) c.in_ok-number.ensures c.in_ok-rows.ensures in
    let same = length-map c.in_ok-rows.rows.items numbered_of in
    record { some = omega (arith, rows.0, same); few = omega (arith, rows.1, same); rising = rows.2 }
