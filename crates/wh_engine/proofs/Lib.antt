pub mod PlaceLemmas
pub mod FileLemmas
mod ReadLemmas
pub mod StopLemmas
mod HaltLemmas
mod CarryLemmas
mod AppendLemmas
mod DecidedLemmas
mod AskedLemmas
mod ReplayLemmas
mod OpenLemmas
