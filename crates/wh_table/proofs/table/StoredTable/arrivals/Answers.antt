use Rattle.wh_filed.specs.Filed.{partitions_at}
use Rattle.wh_version.specs.History.{versions_of}
use Rattle.wh_table.specs.Table.{kept_table}
use Rattle.wh_table.proofs.ArrivedRows.{came_apart, are_arrivals}
use Rattle.wh_table.proofs.table.StoredTable.arrivals.Goals as goal

pub returns-clause-came : goal.returns-clause-came
unfolding kept_table
returns-clause-came c =
    let t = c.args.self.now in
    let found = c.in_ok-arrivals.arrivals in
    are_arrivals found.stamp c.args.place (partitions_at found.came.items) (versions_of t.history) t.rising t.apart
    c.in_ok-arrivals.ensures.came

pub returns-clause-apart : goal.returns-clause-apart
unfolding kept_table
returns-clause-apart c =
    let t = c.args.self.now in
    let found = c.in_ok-arrivals.arrivals in
    came_apart found.stamp c.args.place (partitions_at found.came.items) (versions_of t.history) t.rising t.apart
    c.in_ok-arrivals.ensures.came
