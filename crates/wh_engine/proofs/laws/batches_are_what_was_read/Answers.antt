use Rattle.wh_machine.proofs.BatchLaws as laws
use Rattle.wh_machine.proofs.RunLaws.{run_batch}
use Rattle.wh_machine.proofs.OtherwiseLaws.{nothing_consumed}
use Rattle.wh_engine.proofs.laws.batches_are_what_was_read.Goals as goal

pub returns : goal.returns
returns c = record {
  commits = laws.commit_batch;
  holds = laws.change_holds;
  changes = laws.change_batch;
  runs = run_batch;
  others = nothing_consumed;
}
