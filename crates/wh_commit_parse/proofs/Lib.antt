pub mod TextLaws
pub mod MeantLaws
pub mod CommitLaws
pub mod FileLaws
pub mod FaultLaws
pub mod Turns
