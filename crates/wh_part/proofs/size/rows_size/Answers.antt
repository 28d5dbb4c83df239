use Rattle.std.proofs.Common.{arith}
use Rattle.wh_frame.specs.Spelling.{row_bytes}
use Rattle.wh_part.specs.View.{numbered_of}
use Rattle.wh_part.proofs.SizeLaws.{left_none}
use Rattle.wh_part.proofs.size.rows_size.Goals as goal

pub returns : goal.returns
returns c =
    let none = left_none row_bytes numbered_of c.args.rows.now c.loop-numbered.numbered-index c.loop-numbered-test.false in
    (omega arith, omega arith)
