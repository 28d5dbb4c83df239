use Rattle.std.proofs.Common.{◌∙◌}
use Rattle.wh_decide.proofs.ReadingLemmas.{name_there, name_missing}
use Rattle.wh_decide.proofs.reading.name_of.Goals as goal

pub returns-in_ok-copy-in-Some : goal.returns-in_ok-copy-in-Some
returns-in_ok-copy-in-Some c =
    c.in_ok-copy-in-Some.ensures ∙ c.name.ensures
    ∙ name_there c.args.catalog.now c.args.id c.in-Some.object.now c.in-Some.ensures.object

pub returns-in_ok-empty-in-None : goal.returns-in_ok-empty-in-None
returns-in_ok-empty-in-None c =
    c.in_ok-empty-in-None.ensures ∙ name_missing c.args.catalog.now c.args.id c.in-None.ensures.object
