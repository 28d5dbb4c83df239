use Rattle.std.proofs.Common.{List, IsTrue, refl, sym, subst, ◌∙◌, ◌++◌, ap, take, arith, [], ◌∷◌, get_or}
use Rattle.std.proofs.lemmas.Bool.{and_from}
use Rattle.std.proofs.lemmas.List.{take_more}
use Rattle.std.specs.List.{list_all}
use Rattle.wh_frame.specs.Partition.{Partition, last_number}
use Rattle.wh_table.specs.Apart.{highest_number, rows_rise}
use Rattle.wh_table.proofs.Apart.{highest_number-append}
use Rattle.wh_table.proofs.Rising.{each_append}
use Rattle.wh_table.proofs.numbers.highest_of.Goals as goal

pub loop-partition-preserved : goal.loop-partition-preserved
loop-partition-preserved c =
    let ps = c.args.partitions.now in
    let i = c.loop-partition.partition-index in
    let item = c.partition-item.result in
    let more = ap highest_number (take_more ps i item (omega arith))
    ∙ highest_number-append (take i ps) (get_or ps i item ∷ []) in
    let here = ap (λ p. last_number p.rows) c.partition-item.is in
    let before = c.loop-partition.invariant.highest in
    let front = take_more ps i item (omega arith) ∙ ap (λ p. take i ps ++ p ∷ []) (sym c.partition-item.is) in
    let P : List Partition → Type 0 = λ qs. IsTrue (list_all rows_rise qs) in
    record {
      highest = omega (arith, c.max-so_far.ensures, c.last_rising.ensures.last);
      rising = subst P (sym front) (each_append rows_rise (take i ps) (item ∷ []) c.loop-partition.invariant.rising
          (and_from _ _ c.last_rising.ensures.rising refl));
    }
