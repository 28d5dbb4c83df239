use Rattle.wh_record.proofs.PlaceLaws.{all_spelled, all_within}
use Rattle.wh_record.proofs.size.partitions_stand_in_payload.Goals as goal

pub returns : goal.returns
returns c = record { spelled = all_spelled; within = all_within }
