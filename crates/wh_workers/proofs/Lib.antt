pub mod CutLaws
pub mod JoinedLaws
pub mod Answered
