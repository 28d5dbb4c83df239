use Rattle.std.proofs.Common.{◌≡◌, drop}
use Rattle.wh_part.specs.Decoding.{least_after}
use Rattle.wh_record.specs.Decoding.{numbers_rise}
use Rattle.wh_record.proofs.format.ids_rise.Given as goal

-- the ids rise if those that are left do, from the last one on
abbrev pub invariant-loop-id : goal.invariant-loop-id
invariant-loop-id l = numbers_rise 0 l.ids ≡ numbers_rise (least_after l.last) (drop l.id-index l.ids)
