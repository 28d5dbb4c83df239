pub mod RisingRows
pub mod Entries
pub mod NetParts
pub mod SeenRows
pub mod Walking
pub mod Behind
pub mod CameLaws
pub mod MeetingLaws
mod Loading
mod LoadedLaws
