-- What the crates above cite: what is read stands there, and the frames.
pub use Rattle.wh_option_parse.proofs.LagLemmas.{lags_read, asked_read}
pub use Rattle.wh_option_parse.proofs.Conditions.{conditions_read}
pub use Rattle.wh_option_parse.proofs.TaskLemmas.{task_options_read}
pub use Rattle.wh_option_parse.proofs.TableLemmas.{table_options_read}
pub use Rattle.wh_option_parse.proofs.Frames.{condition_frame, condition_back, task_options_frame, table_options_frame}
