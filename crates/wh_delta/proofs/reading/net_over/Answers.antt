use Rattle.wh_filed.proofs.AskingLaws.{among_on, among_first}
use Rattle.wh_algebra.specs.View.{query_of}
use Rattle.wh_exec.specs.Asked.{filed_by, asked_for}
use Rattle.wh_delta.proofs.reading.net_over.Goals as goal

pub returns-in_default-clause-asks : goal.returns-in_default-clause-asks
returns-in_default-clause-asks g c =
    let query = query_of c.args.query.now in
    among_first (asked_for query (filed_by c.args.comes.now)) (asked_for query (filed_by c.args.goes.now)) _ _
    c.in_ok-comes.ensures.asks

pub returns-in_default-2-clause-asks : goal.returns-in_default-2-clause-asks
returns-in_default-2-clause-asks g c =
    let query = query_of c.args.query.now in
    among_on (asked_for query (filed_by c.args.comes.now)) (asked_for query (filed_by c.args.goes.now)) _ _ _
    c.in_ok-comes.ensures.asks c.in_ok-goes.ensures.asks

pub returns-clause-asks : goal.returns-clause-asks
returns-clause-asks g c =
    let query = query_of c.args.query.now in
    among_on (asked_for query (filed_by c.args.comes.now)) (asked_for query (filed_by c.args.goes.now)) _ _ _
    c.in_ok-comes.ensures.asks c.in_ok-goes.ensures.asks
