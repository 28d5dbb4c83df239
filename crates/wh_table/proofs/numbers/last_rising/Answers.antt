use Rattle.wh_table.proofs.Rising.{rows_are_rising}
use Rattle.wh_table.proofs.numbers.last_rising.Goals as goal

pub returns-clause-rising : goal.returns-clause-rising
returns-clause-rising c = rows_are_rising 0 c.args.partition.now.rows c.last.ensures.rising
