use Rattle.std.proofs.Common.{nat_lt, arith, rules}
use Rattle.std.proofs.lemmas.List.Sorted.{IsPartitionPoint-from_clause, IsPartitionedBy-ltb}
use Rattle.wh_version.proofs.Places.{IsCutAt, numbers_rise, cut_at}
use Rattle.wh_version.proofs.searching.place_of.Goals.{After-partition_point}
use Rattle.wh_version.proofs.searching.place_of.Goals as goal

cut : (c : After-partition_point) → IsCutAt c.args.number c.args.list.now c.partition_point.result
cut c =
    let list = c.args.list.now in
    let parted = IsPartitionedBy-ltb (λ e. e.number) list c.args.number (numbers_rise list c.requires) in
    let point = IsPartitionPoint-from_clause (λ e. nat_lt e.number c.args.number) _ _
    c.partition_point.ensures.partitioned parted (λ a r q k. search rules) in
    cut_at c.args.number list _ c.partition_point.ensures.bound
    (λ i d low. point.0 i d (omega arith) low) (λ d within. point.1 _ d (omega arith) within)

pub returns-clause-front : goal.returns-clause-front
returns-clause-front c = (cut (goal.at.returns-clause-front c).After-partition_point).front

pub returns-clause-behind : goal.returns-clause-behind
returns-clause-behind c = (cut (goal.at.returns-clause-behind c).After-partition_point).behind
