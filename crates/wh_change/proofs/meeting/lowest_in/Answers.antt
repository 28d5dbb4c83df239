use Rattle.std.proofs.Common.{List, subst}
use Rattle.std.proofs.lemmas.List.{take_all}
use denote.Ref.{Bor}
use Rattle.wh_filed.specs.Filed.{Filed, partitions_at}
use Rattle.wh_change.specs.Seen.{IsLeast}
use Rattle.wh_change.proofs.meeting.lowest_in.Goals as goal

pub returns : goal.returns
returns c =
    subst (λ (came : List (Bor Filed)). IsLeast c.loop-one.lowest (partitions_at came))
    (take_all c.loop-one.one-index c.args.came.now c.loop-one-test.false) c.loop-one.invariant
