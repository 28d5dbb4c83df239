use Rattle.wh_option_parse.proofs.Reading as lemmas
use Rattle.wh_option_parse.proofs.calls.reading_laws.Goals as goal

pub returns : goal.returns
returns c = record {
  lags = lemmas.lags_read;
  asked = lemmas.asked_read;
  conditions = lemmas.conditions_read;
  task_options = lemmas.task_options_read;
  table_options = lemmas.table_options_read;
  condition_frame = lemmas.condition_frame;
  condition_back = lemmas.condition_back;
  task_options_frame = lemmas.task_options_frame;
  table_options_frame = lemmas.table_options_frame;
}
