use Rattle.wh_version.proofs.Touched.{untouched_unless}
use Rattle.wh_version.proofs.touching.may_be_touched.Goals as goal

pub returns : goal.returns
returns c =
    untouched_unless c.args.edits.now c.args.filed.now.partition c.first.result c.last.result c.has_between.result
    c.first.ensures c.last.ensures.last c.last.ensures.rising c.has_between.ensures
