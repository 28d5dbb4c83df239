use Rattle.wh_part.proofs.PartitionLaws.{fixes_partitions}
use Rattle.wh_part.proofs.decoding.spelling_fixes_partitions.Goals as goal

pub returns : goal.returns
returns c = fixes_partitions
