use Rattle.wh_record.proofs.ShapeLemmas.{partition_spelled}
use Rattle.wh_record.proofs.encoding.write_partition.Goals as goal

pub returns-clause-spelled : goal.returns-clause-spelled
returns-clause-spelled c =
    partition_spelled c.args.width c.args.partition.now c.in_ok-encode.ensures.shaped
    (c.has_rows.ensures.0 c.if-not-has_rows.false)
