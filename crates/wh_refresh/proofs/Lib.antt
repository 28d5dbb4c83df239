mod ObjectLemmas
mod RefreshLemmas
mod SourceLemmas
mod PartLaws
mod WalkLaws
mod GoingLaws
mod MovingLaws
mod GivenLaws
mod HeldLaws
mod GroupLaws
pub mod StandLaws
mod MovesLaws
mod AskLaws
mod WaveLaws
mod DoneLaws
