use Rattle.wh_version.proofs.Places.{cut_there}
use Rattle.wh_version.proofs.searching.place_near.Goals as goal

pub returns-then-is_place-clause-within : goal.returns-then-is_place-clause-within
returns-then-is_place-clause-within c = c.if-is_place.ensures.within

pub returns-then-is_place-clause-front : goal.returns-then-is_place-clause-front
returns-then-is_place-clause-front c =
    (cut_there c.args.number c.args.list.now c.args.guess c.requires c.if-is_place.ensures).front

pub returns-then-is_place-clause-behind : goal.returns-then-is_place-clause-behind
returns-then-is_place-clause-behind c =
    (cut_there c.args.number c.args.list.now c.args.guess c.requires c.if-is_place.ensures).behind
