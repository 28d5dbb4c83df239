use Rattle.std.proofs.Common.{sym, ◌∙◌}
use Rattle.wh_txn.proofs.SeenLemmas.{catalog_stream}
use Rattle.wh_tick.proofs.lookups.stream_at.Goals as goal

pub returns : goal.returns
returns c = c.stream.ensures ∙ sym (catalog_stream c.args.catalog.now c.args.id)
