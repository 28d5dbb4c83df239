use Rattle.std.proofs.Common.{◌∙◌, ap}
use Rattle.wh_meaning.specs.Bag.{times}
use Rattle.wh_bag.proofs.Entries.{counted}
use Rattle.wh_bag.proofs.bag.Bag.count.Goals as goal

pub returns-in-Some : goal.returns-in-Some
returns-in-Some c =
    c.count.ensures
    ∙ ap times c.in-Some.ensures.value
    ∙ counted c.self.inside.map.entries c.args.self.now c.self.view_is c.args.row.now

pub returns-in-None : goal.returns-in-None
returns-in-None c =
    ap times c.in-None.ensures.value ∙ counted c.self.inside.map.entries c.args.self.now c.self.view_is c.args.row.now
