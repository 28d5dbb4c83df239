use Rattle.wh_fetch.proofs.CacheLemmas.{stays_beside as it}
use Rattle.wh_fetch.proofs.kept.stays_beside.Goals as goal

pub returns : goal.returns
returns c = it
