pub mod Apart
pub mod Conditions
pub mod TableBag
pub mod Pushed
pub mod Rising
pub mod OrderlyTables
pub mod Chain
pub mod ChangedRows
pub mod Entries
pub mod StandingLaws
pub mod Edited
mod Asked
mod ArrivedRows
pub mod MomentRows
pub mod HoldLaws
mod FittingLaws
