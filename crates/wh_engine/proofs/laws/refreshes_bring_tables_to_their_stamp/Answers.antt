use Rattle.wh_machine.proofs.RefreshedNow.{stands_now}
use Rattle.wh_engine.proofs.laws.refreshes_bring_tables_to_their_stamp.Goals as goal

pub returns : goal.returns
returns c = stands_now
