use Rattle.std.proofs.Common.{◌≡◌, ◌<◌, take, length, get_or}
use denote.Ref.{Bor}
use Rattle.wh_filed.specs.Filed.{Filed, filed_at}
use Rattle.wh_delta.specs.Moved.{only_in, LowerBefore}
use Rattle.wh_delta.proofs.moved.only_by_walk.Given as goal

abbrev pub invariant-loop-one : goal.invariant-loop-one
invariant-loop-one l =
    (filed_at l.found.items ≡ only_in (filed_at (take l.one-index l.some)) (filed_at l.others))
    × ((d : Bor Filed) → l.one-index < length l.some → LowerBefore (get_or l.some l.one-index d).now l.others l.near)
