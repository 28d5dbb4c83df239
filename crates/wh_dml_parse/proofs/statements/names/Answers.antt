use Rattle.wh_cursor.proofs.Found as lemmas
use Rattle.wh_dml_parse.specs.Follow.{AreNamesAt}
use Rattle.wh_dml_parse.proofs.Reading.{names_read}
use Rattle.wh_dml_parse.proofs.statements.names.Goals as goal

pub returns-clause-found : goal.returns-clause-found
returns-clause-found c = lemmas.found (AreNamesAt c.args.words.now) _
    (λ names us. (names_read c.args.words.now names us).0) _ _ c.name_list.ensures.reads

pub returns-clause-none : goal.returns-clause-none
returns-clause-none c = lemmas.none (AreNamesAt c.args.words.now) _
    (λ names us. (names_read c.args.words.now names us).1) _ _ c.name_list.ensures.reads
