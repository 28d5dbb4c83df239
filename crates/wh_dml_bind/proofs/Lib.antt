pub mod PlaceLemmas
pub mod RowLemmas
pub mod ValueLemmas
pub mod ClauseLemmas
