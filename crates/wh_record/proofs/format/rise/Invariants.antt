use Rattle.std.proofs.Common.{◌≡◌, drop}
use Rattle.wh_part.specs.Decoding.{least_after}
use Rattle.wh_record.specs.Decoding.{numbers_rise}
use Rattle.wh_record.proofs.format.rise.Given as goal

-- the numbers rise if those that are left do, from the last one on
abbrev pub invariant-loop-number : goal.invariant-loop-number
invariant-loop-number l = numbers_rise 0 l.numbers ≡ numbers_rise (least_after l.last) (drop l.number-index l.numbers)
