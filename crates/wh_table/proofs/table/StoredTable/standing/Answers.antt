use Rattle.wh_filed.specs.Filed.{partitions_at}
use Rattle.wh_table.proofs.HoldLaws.{holds_last}
use Rattle.wh_table.proofs.table.StoredTable.standing.Goals as goal

pub returns-clause-holds : goal.returns-clause-holds
returns-clause-holds c = holds_last c.args.self.now (partitions_at c.in_ok-standing.standing.items)
    c.in_ok-standing.ensures.standing
