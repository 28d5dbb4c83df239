use Rattle.wh_txn.specs.Recording.{touched_at}
use Rattle.wh_txn.proofs.TableLemmas.{touched_whole}
use Rattle.wh_txn.proofs.lone.touched.Goals as goal

pub returns : goal.returns
returns c =
    touched_whole c.args.tables.entries c.loop-id.id-iterator (touched_at c.loop-id.touched.items)
    c.into_iter-id-iterator.ensures.into_iter_gives.5 c.in-None.ensures.steps.0 c.loop-id.invariant
