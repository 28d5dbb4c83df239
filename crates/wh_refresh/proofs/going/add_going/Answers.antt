use Rattle.std.proofs.Common.{◌∙◌, [], ◌∷◌, ◌++◌, sym, ap, subst}
use Rattle.std.proofs.lemmas.Bool.{OnFalse_at}
use Rattle.wh_frame.specs.Partition.{Partition}
use Rattle.wh_part.specs.Holding.{columns_of}
use Rattle.wh_part.proofs.Within.{within_meta}
use Rattle.wh_filed.specs.Filed.{partitions_at}
use Rattle.wh_refresh.specs.Going.{AreGoing, StaysWithin}
use Rattle.wh_refresh.proofs.HeldLaws.{all_stay, kept_more, stayed_more, pushed}
use Rattle.wh_refresh.proofs.going.add_going.Goals as goal

pub returns-in_ok-push-clause-added : goal.returns-in_ok-push-clause-added
returns-in_ok-push-clause-added c seen so_far =
    let minus = c.args.change.now.minus in
    let p : Partition = c.args.filed.now.partition in
    subst (AreGoing minus (seen ++ p ∷ []))
    (sym (ap partitions_at c.in_ok-push.ensures.items ∙ pushed c.args.going.now.items c.args.filed))
    (kept_more minus p seen (partitions_at c.args.going.now.items) so_far)

pub returns-else-may_lose-clause-added : goal.returns-else-may_lose-clause-added
returns-else-may_lose-clause-added c seen so_far =
    let minus = c.args.change.now.minus in
    let p : Partition = c.args.filed.now.partition in
    let meta = c.meta.result.now in
    let stays : StaysWithin (columns_of meta) minus = OnFalse_at c.if-may_lose.false c.may_lose.ensures in
    stayed_more minus p (all_stay (columns_of meta) minus stays p.rows (within_meta meta p c.meta.ensures.says)) seen
    (partitions_at c.args.going.now.items) so_far
