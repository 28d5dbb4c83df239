use Rattle.wh_bag.proofs.Entries.{emptied}
use Rattle.wh_bag.proofs.bag.Bag.is_empty.Goals as goal

pub returns : goal.returns
returns c =
    let none = emptied c.self.inside.map.entries c.args.self.now c.self.view_is in
    (λ is. none.0 (c.is_empty.ensures.0 is), λ is. c.is_empty.ensures.1 (none.1 is))
