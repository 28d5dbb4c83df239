use Rattle.std.proofs.Common.{◌≡◌, ◌+◌, ◌∙◌, ap, sym, subst, List, ◌∷◌, drop, get_or, IsTrue, arith}
use Rattle.std.proofs.lemmas.List.{drop_more}
use Rattle.wh_frame.specs.Partition.{Partition}
use Rattle.wh_filed.specs.Filed.{partitions_filed}
use Rattle.wh_version.specs.Lasting.{numbered_from, partitions_in, parted}
use Rattle.wh_version.proofs.Parted.{one_filed}
use Rattle.wh_version.proofs.pushing.part.Goals as goal

pub part_one-requires : goal.part_one-requires
part_one-requires c =
    let P : List Partition → Type 0 = λ ps. IsTrue (numbered_from 1 ps) in
    subst P (sym c.loop-number.invariant.1) c.requires

pub loop-number-preserved : goal.loop-number-preserved
loop-number-preserved c =
    let at = c.loop-number in
    let removed = c.args.removed.now in
    let number = get_or removed at.number-index 0 in
    let left : drop at.number-index removed ≡ number ∷ drop (at.number-index + 1) removed =
    drop_more removed at.number-index 0 (omega arith) in
    let before = at.invariant in
    let step = c.part_one.ensures in (
      ap (parted c.args.place (drop (at.number-index + 1) removed)) step.parted
          ∙ sym (ap (λ l. parted c.args.place l at.kept.items) left) ∙ before.0,
      ap partitions_in step.parted ∙ ap partitions_filed (one_filed c.args.place number at.kept.items) ∙ before.1,
      step.length ∙ before.2,
      step.capacity ∙ before.3,
    )
