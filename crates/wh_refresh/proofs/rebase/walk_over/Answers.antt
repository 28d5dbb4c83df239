use Rattle.std.proofs.Common.{◌+◌, ◌++◌, sym, ap, ◌∙◌, drop, map, List, ℕ}
use denote.Ref.{Bor}
use Rattle.wh_value.specs.Value.{Row}
use Rattle.wh_value.proofs.ListLaws.{drop_here}
use Rattle.wh_frame.specs.Partition.{Partition}
use Rattle.wh_part.specs.View.{numbered_of}
use Rattle.wh_table.specs.Rows.{all_rows, partitions_at}
use Rattle.wh_refresh.specs.Walk.{Walked, walked, walk_of}
use Rattle.wh_refresh.proofs.WalkLaws.{walked_append}
use Rattle.wh_refresh.proofs.rebase.walk_over.Goals as goal

pub loop-partition-preserved : goal.loop-partition-preserved
loop-partition-preserved c =
    let new = c.args.new.now in
    let old = c.args.old.now in
    let at = c.loop-partition in
    let i = at.partition-index in
    let rest : List (ℕ × Row) = all_rows (partitions_at (drop (i + 1) old)) in
    ap (λ (w : Walked). walked new rest w) c.in_ok-pass_all.ensures
    ∙ sym (walked_append new (map numbered_of c.rows.result.now) rest (walk_of at.walk))
    ∙ ap (λ (rows : List (ℕ × Row)). walked new (rows ++ rest) (walk_of at.walk)) c.rows.ensures.rows
    ∙ ap (λ (ps : List (Bor Partition)). walked new (all_rows (partitions_at ps)) (walk_of at.walk))
    (sym (drop_here old i c.partition-item.result c.loop-partition-test.true c.partition-item.is))
    ∙ at.invariant
