use Rattle.std.proofs.Common.{◌+◌, ◌++◌, sym, ap, ◌∙◌, drop, map, List, ℕ}
use Rattle.std.proofs.lemmas.List.{append_assoc, map-append}
use denote.Ref.{Bor}
use Rattle.wh_value.specs.Value.{Row}
use Rattle.wh_value.proofs.ListLaws.{drop_here}
use Rattle.wh_frame.specs.Partition.{Partition}
use Rattle.wh_part.specs.View.{numbered_of}
use Rattle.wh_algebra.specs.Tuple.{rows_in}
use Rattle.wh_table.specs.Rows.{rows_only, all_rows, partitions_at}
use Rattle.wh_refresh.proofs.changes.counted.Goals as goal

pub loop-partition-preserved : goal.loop-partition-preserved
loop-partition-preserved c =
    let old = c.args.partitions.now in
    let at = c.loop-partition in
    let i = at.partition-index in
    let lent : List Row = rows_in at.tuples.items in
    let rest : List (ℕ × Row) = all_rows (partitions_at (drop (i + 1) old)) in
    let here : List (ℕ × Row) = map numbered_of c.rows.result.now in
    ap (λ (l : List Row). l ++ rows_only rest) c.in_ok-lend.ensures
    ∙ append_assoc lent (rows_only here) (rows_only rest)
    ∙ ap (λ (l : List Row). lent ++ l) (sym (map-append (λ e. e.1) here rest)
    ∙ ap (λ (l : List (ℕ × Row)). rows_only (l ++ rest)) c.rows.ensures.rows
    ∙ ap (λ (ps : List (Bor Partition)). rows_only (all_rows (partitions_at ps)))
    (sym (drop_here old i c.partition-item.result c.loop-partition-test.true c.partition-item.is)))
    ∙ at.invariant
