pub mod SoughtLaws
pub mod SameLaws
pub mod SettledLaws
pub mod WaveLaws
pub mod StepLaws
pub mod WaveLemmas
