pub mod TaskLemmas
