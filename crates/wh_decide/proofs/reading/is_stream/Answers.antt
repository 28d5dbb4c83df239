use Rattle.std.proofs.Common.{is_some, ap, ◌∙◌}
use Rattle.wh_decide.proofs.ReadingLemmas.{is_stream_at}
use Rattle.wh_decide.proofs.reading.is_stream.Goals as goal

pub returns-in-Some : goal.returns-in-Some
returns-in-Some c = ap is_some c.in-Some.ensures ∙ is_stream_at c.args.catalog.now c.args.id

pub returns-in-None : goal.returns-in-None
returns-in-None c = ap is_some c.in-None.ensures ∙ is_stream_at c.args.catalog.now c.args.id
