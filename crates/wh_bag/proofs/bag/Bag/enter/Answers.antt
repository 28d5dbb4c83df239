use Rattle.wh_bag.proofs.Entries.{entered_after}
use Rattle.wh_bag.proofs.bag.Bag.enter.Goals as goal

pub returns-clause-ok : goal.returns-clause-ok
returns-clause-ok c =
    entered_after c.self.inside.map.entries c.insert.new.self.entries c.args.row c.args.self.now c.self.view_is
    c.in-Some.times c.args.count c.in-Some.ensures c.in-Ok.ensures.updates.0
