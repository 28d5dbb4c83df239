use Rattle.std.proofs.Common.{is_some, ap, ◌∙◌}
use Rattle.wh_catalog.specs.Catalog.{state_of}
use Rattle.wh_tick.proofs.GuardLemmas.{kind_stream}
use Rattle.wh_tick.proofs.guards.is_stream.Goals as goal

pub returns-in-Some : goal.returns-in-Some
returns-in-Some c = ap is_some c.in-Some.ensures ∙ kind_stream (state_of c.args.catalog.now).objects c.args.id

pub returns-in-None : goal.returns-in-None
returns-in-None c = ap is_some c.in-None.ensures ∙ kind_stream (state_of c.args.catalog.now).objects c.args.id
