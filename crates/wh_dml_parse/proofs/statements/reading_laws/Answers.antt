use Rattle.wh_dml_parse.proofs.Reading as lemmas
use Rattle.wh_dml_parse.proofs.statements.reading_laws.Goals as goal

pub returns : goal.returns
returns c = record {
  dml = lemmas.dml_read;
  names = lemmas.names_read;
  fixed = lemmas.tokens_fix_dml;
  frame = lemmas.names_frame;
}
