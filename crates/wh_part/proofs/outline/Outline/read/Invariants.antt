use Rattle.wh_part.proofs.SketchLaws.{first_in}
use Rattle.wh_part.specs.Decoding.{partition_at}
use Rattle.wh_part.proofs.outline.Outline.read.Given as goal

abbrev pub ghost-spelled : goal.ghost-spelled
ghost-spelled a = first_in (partition_at a._width a._bytes.now)
