use Rattle.wh_cursor.proofs.Found as lemmas
use Rattle.wh_dml_parse.specs.Follow.{IsDmlAt}
use Rattle.wh_dml_parse.proofs.Reading.{dml_read}
use Rattle.wh_dml_parse.proofs.statements.dml.Goals as goal

pub returns-clause-found : goal.returns-clause-found
returns-clause-found c = lemmas.found (IsDmlAt c.args.depth c.args.words.now) _
    (λ x us. (dml_read c.args.depth c.args.words.now x us).0) _ _ c.whole_dml.ensures.reads

pub returns-clause-none : goal.returns-clause-none
returns-clause-none c = lemmas.none (IsDmlAt c.args.depth c.args.words.now) _
    (λ x us. (dml_read c.args.depth c.args.words.now x us).1) _ _ c.whole_dml.ensures.reads
