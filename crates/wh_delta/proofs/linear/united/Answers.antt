use Rattle.std.proofs.Common.{ap, ◌∙◌}
use Rattle.wh_meaning.specs.Bag.{bag_of}
use Rattle.wh_meaning.proofs.BagLaws.{bag_of-append}
use Rattle.wh_delta.proofs.linear.united.Goals as goal

pub returns : goal.returns
returns c = ap bag_of c.in_ok-all.ensures ∙ bag_of-append c.args.rows.items c.args.more.items
