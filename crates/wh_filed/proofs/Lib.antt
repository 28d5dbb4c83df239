pub mod FilingLaws
pub mod ShownLaws
pub mod FetchingLaws
pub mod AskingLaws
mod LoadingLemmas
