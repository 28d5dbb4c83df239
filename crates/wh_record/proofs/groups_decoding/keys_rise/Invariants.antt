use Rattle.std.proofs.Common.{◌≡◌, length}
use Rattle.wh_record.specs.Decoding.{keys_rise}
use Rattle.wh_record.proofs.groups_decoding.keys_rise.Given as goal

-- the keys rise if those that are left do
abbrev pub invariant-loop-rest : goal.invariant-loop-rest
invariant-loop-rest l = keys_rise l.entries ≡ keys_rise l.rest

abbrev pub decreases-loop-rest : goal.decreases-loop-rest
decreases-loop-rest l = length l.rest
