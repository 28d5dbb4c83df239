use Rattle.wh_decide.proofs.ReadyLemmas.{stage_settles}
use Rattle.wh_decide.proofs.settling.staged.Goals as goal

pub returns-clause-ready : goal.returns-clause-ready
returns-clause-ready c = λ sessions stamp t is.
    stage_settles sessions stamp c.args.session c.args.bound.now.target c.args.streams c.args.next_row c.args.effect t
    is
