use Rattle.std.proofs.Common.{arith}
use Rattle.wh_frame.specs.Spelling.{value_bytes}
use Rattle.wh_value.specs.View.{value_of}
use Rattle.wh_part.proofs.SizeLaws.{left_none}
use Rattle.wh_part.proofs.size.values_size.Goals as goal

pub returns : goal.returns
returns c =
    let none = left_none value_bytes value_of c.args.values.now c.loop-value.value-index c.loop-value-test.false in
    (omega arith, omega arith)
