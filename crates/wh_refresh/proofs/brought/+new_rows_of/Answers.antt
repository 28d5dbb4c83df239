use Rattle.wh_refresh.proofs.AskLaws.{found_behind}
use Rattle.wh_refresh.proofs.brought.+new_rows_of.Goals as goal

pub returns-else-one-id-clause-among : goal.returns-else-one-id-clause-among
returns-else-one-id-clause-among t c =
    found_behind c.args.all.now c.args.id c.new_rows_of.result c.new_rows_of.ensures.among
