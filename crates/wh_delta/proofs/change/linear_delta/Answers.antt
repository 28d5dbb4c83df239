use Rattle.wh_algebra.specs.View.{query_of}
use Rattle.wh_maintenance.proofs.Turns.{net_apart}
use Rattle.wh_delta.specs.Moves.{change_of}
use Rattle.wh_delta.proofs.Arms.{net_carried}
use Rattle.wh_delta.proofs.FoundLaws.{net_found, none_found}
use Rattle.wh_delta.proofs.change.linear_delta.Goals as goal

pub returns-in_default-clause-change : goal.returns-in_default-clause-change
returns-in_default-clause-change g c = λ came went old new was turns is.
    let q = query_of c.args.query.now in
    none_found q _ (net_carried q _ _ c.requires.linear ((rw c.in_default.is at c.in_ok-moves.ensures.net) came went)) new
    turns was is

pub returns-clause-change : goal.returns-clause-change
returns-clause-change g c = λ came went old new was turns is.
    let q = query_of c.args.query.now in
    net_found q _ (change_of c.in-Some.moves) c.in_ok-net.net
    (net_carried q _ _ c.requires.linear ((rw c.in-Some.is at c.in_ok-moves.ensures.net) came went)) c.in_ok-net.ensures
    new turns was is

pub returns-clause-apart : goal.returns-clause-apart
returns-clause-apart g c = net_apart _ _ _ _ c.in_ok-net.ensures
