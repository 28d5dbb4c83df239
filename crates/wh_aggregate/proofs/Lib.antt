pub mod FaultLemmas
pub mod CallLemmas
pub mod KeyLemmas
pub mod GroupLemmas
pub mod LoopLemmas
pub mod MapLemmas
pub mod JoinLemmas
