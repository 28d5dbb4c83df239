use Rattle.wh_state.specs.State.{content_in}
use Rattle.wh_state.specs.Stored.{StoredVersion}
use Rattle.wh_filed.specs.Filed.{partitions_at}
use Rattle.wh_version.specs.History.{versions_of}
use Rattle.wh_version.specs.Times.{data_at}
use Rattle.wh_table.specs.Table.{kept_table}
use Rattle.std.proofs.Common.{List, []}
use Rattle.wh_table.proofs.ChangedRows.{found_rising, found_apart, turns_over}
use Rattle.wh_table.proofs.table.StoredTable.turnover.Goals as goal

pub returns-clause-turned : goal.returns-clause-turned
unfolding kept_table
returns-clause-turned c =
    let t = c.args.self.now in
    let vs : List StoredVersion = versions_of t.history in
    let found = c.in_ok-turnover.turnover in
    turns_over (partitions_at found.went.items) (partitions_at found.came.items)
    (content_in [] (data_at c.args.from vs)) (content_in [] (data_at c.args.to vs)) c.in_ok-turnover.ensures.turnover
    (found_rising c.args.from vs t.rising) (found_apart c.args.from vs t.apart)
    (found_rising c.args.to vs t.rising) (found_apart c.args.to vs t.apart)

pub returns-clause-parts : goal.returns-clause-parts
unfolding kept_table
returns-clause-parts c = c.in_ok-turnover.ensures.turnover
