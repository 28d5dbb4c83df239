use Rattle.wh_stmt_parse.proofs.Reading.{readers}
use Rattle.wh_stmt_parse.proofs.Statements.{found, none}
use Rattle.wh_stmt_parse.proofs.parsing.parse.Goals as goal

pub returns-clause-found : goal.returns-clause-found
returns-clause-found c = found readers c.args.text.now _ c.read.ensures

pub returns-clause-none : goal.returns-clause-none
returns-clause-none c = none readers c.args.text.now _ c.read.ensures
