-- What a text spells is what is read of it.
use Rattle.wh_query_parse.proofs.Reading as query_lemmas
use Rattle.wh_option_parse.proofs.Reading as option_lemmas
use Rattle.wh_dml_parse.proofs.Reading as dml_lemmas
use Rattle.wh_stmt_parse.specs.Laws as laws
use Rattle.wh_stmt_parse.proofs.Readers.{Readers}
use Rattle.wh_stmt_parse.proofs.Statements.{texts-read, fixes-statement, requests-read}

pub readers : Readers
readers = record {
  queries = query_lemmas.queries_read;
  dml = dml_lemmas.dml_read;
  names = dml_lemmas.names_read;
  names_frame = dml_lemmas.names_frame;
  lags = option_lemmas.lags_read;
  asked = option_lemmas.asked_read;
  conditions = option_lemmas.conditions_read;
  condition_frame = option_lemmas.condition_frame;
  condition_back = option_lemmas.condition_back;
  task_options = option_lemmas.task_options_read;
  task_options_frame = option_lemmas.task_options_frame;
  table_options = option_lemmas.table_options_read;
  table_options_frame = option_lemmas.table_options_frame;
}

pub texts_read : laws.ReadsTexts
texts_read = texts-read readers

pub text_fixes_statement : laws.TextFixesStatement
text_fixes_statement = fixes-statement readers

pub requests_read : laws.ReadsRequests
requests_read = requests-read readers
