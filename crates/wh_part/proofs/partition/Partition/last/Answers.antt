use Rattle.std.proofs.Common.{◌-◌, ◌∙◌, length, ap, arith}
use Rattle.wh_frame.specs.Partition.{last_number}
use Rattle.wh_part.proofs.RowNumbers.{last_at}
use Rattle.wh_part.proofs.partition.Partition.last.Goals as goal

pub returns : goal.returns
returns c =
    last_at c.rows-rows.result.now (length c.rows-rows.result.now - 1) c.index-rows-rows.result (omega arith)
    ∙ ap last_number c.rows-rows.ensures.rows
