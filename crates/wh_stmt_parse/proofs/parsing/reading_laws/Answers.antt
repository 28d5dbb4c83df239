use Rattle.wh_stmt_parse.proofs.Reading as lemmas
use Rattle.wh_stmt_parse.proofs.parsing.reading_laws.Goals as goal

pub returns : goal.returns
returns c = record { texts = lemmas.texts_read; fixed = lemmas.text_fixes_statement; requests = lemmas.requests_read }
