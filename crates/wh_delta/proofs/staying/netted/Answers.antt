use Rattle.std.proofs.Common.{ap, ◌∙◌}
use Rattle.wh_meaning.specs.Bag.{bag_of}
use Rattle.wh_maintenance.specs.Turn.{less}
use Rattle.wh_delta.proofs.Walk.{net_left}
use Rattle.wh_delta.proofs.staying.netted.Goals as goal

pub returns : goal.returns
returns c = net_left _ _ _ _
    (c.in_ok-comes.ensures
    ∙ ap (less (bag_of c.args.moves.comes.items)) (c.in_ok-gone.ensures ∙ ap bag_of c.deref-2.ensures.value))
    (c.in_ok-goes.ensures
    ∙ ap (less (bag_of c.args.moves.goes.items)) (c.in_ok-came.ensures ∙ ap bag_of c.deref.ensures.value))
