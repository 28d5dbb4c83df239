use Rattle.std.proofs.Common.{◌∙◌, ◌∷◌, [], ◌++◌, ap, sym, take, arith}
use Rattle.std.proofs.lemmas.List.{take_all, take_more, map_push}
use Rattle.wh_frame.specs.Partition.{last_number}
use Rattle.wh_filed.specs.Filed.{partitions_filed}
use Rattle.wh_version.specs.Lasting.{filed_in, partitions_in}
use Rattle.wh_table.specs.Apart.{highest_number}
use Rattle.wh_table.proofs.Apart.{highest_number-append}
use Rattle.wh_table.proofs.numbers.highest_kept.Goals as goal

pub loop-one-preserved : goal.loop-one-preserved
loop-one-preserved c =
    let kept = c.kept-kept.result.now in
    let i = c.loop-one.one-index in
    let k = c.one-item.result in
    let front = take_more kept i k (omega arith) ∙ ap (λ x. take i kept ++ x ∷ []) (sym c.one-item.is) in
    let more = ap (λ ks. highest_number (partitions_in ks)) front
    ∙ ap (λ fs. highest_number (partitions_filed fs)) (map_push (λ x. x.filed) (take i kept) k)
    ∙ ap highest_number (map_push (λ f. f.partition) (filed_in (take i kept)) k.filed)
    ∙ highest_number-append (partitions_in (take i kept)) (k.filed.partition ∷ []) in
    let here = ap (λ f. last_number f.partition.rows) c.filed.ensures in
    omega (arith, more, here, c.loop-one.invariant, c.last.ensures.last, c.max-so_far.ensures)

pub returns : goal.returns
returns c =
    let kept = c.kept-kept.result.now in
    c.loop-one.invariant
    ∙ ap (λ ks. highest_number (partitions_in ks)) (take_all c.loop-one.one-index kept c.loop-one-test.false)
    ∙ ap highest_number c.kept-kept.ensures.kept
