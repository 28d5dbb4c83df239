use Rattle.std.proofs.Common.{ltb, arith, rules}
use Rattle.std.proofs.lemmas.Bool.{ltb-true, ltb-false}
use Rattle.std.proofs.lemmas.List.Sorted.{IsPartitionPoint-from_clause, IsPartitionedBy-ltb}
use Rattle.wh_change.specs.Rows.{entry_at}
use Rattle.wh_change.proofs.RisingRows.{rows_rise}
use Rattle.wh_change.proofs.rows.place_of.Goals as goal

pub returns : goal.returns
returns c =
    let rows = c.args.rows.now in
    let parted = IsPartitionedBy-ltb (λ row. row.now.number) rows c.args.number
    (rows_rise entry_at 0 rows c.requires) in
    let point = IsPartitionPoint-from_clause (λ row. ltb row.now.number c.args.number) _ _
    c.partition_point.ensures.partitioned parted (λ a r q k. search rules) in
    record {
      front = λ i d below. ltb-true _ _ (point.0 i d (omega arith) below);
      behind = λ d within. ltb-false _ _ (point.1 c.partition_point.result d (omega arith) within);
    }
