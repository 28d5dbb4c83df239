-- What the readers below give, and the fronts that they take, as one record.
use Rattle.wh_query_parse.specs.Laws as query_laws
use Rattle.wh_option_parse.specs.Laws as option_laws
use Rattle.wh_dml_parse.specs.Laws as dml_laws

pub record Readers : Type 0 where
  pub queries : query_laws.ReadsQueries
  pub dml : dml_laws.ReadsDml
  pub names : dml_laws.ReadsNames
  pub names_frame : dml_laws.NamesFrame
  pub lags : option_laws.ReadsLags
  pub asked : option_laws.ReadsAsked
  pub conditions : option_laws.ReadsConditions
  pub condition_frame : option_laws.ConditionFrame
  pub condition_back : option_laws.ConditionBack
  pub task_options : option_laws.ReadsTaskOptions
  pub task_options_frame : option_laws.TaskOptionsFrame
  pub table_options : option_laws.ReadsTableOptions
  pub table_options_frame : option_laws.TableOptionsFrame
