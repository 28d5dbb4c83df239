use Rattle.std.proofs.Common.{◌≡◌, drop}
use Rattle.wh_record.specs.Decoding.{are_nothing}
use Rattle.wh_record.proofs.groups_decoding.are_nothing.Given as goal

-- nothing is added up if those that are left have nothing
abbrev pub invariant-loop-total : goal.invariant-loop-total
invariant-loop-total l = are_nothing l.totals ≡ are_nothing (drop l.total-index l.totals)
