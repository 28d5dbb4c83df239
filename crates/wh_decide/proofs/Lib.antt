pub mod ListLemmas
pub mod CatalogLemmas
pub mod OutcomeLemmas
pub mod ReadyLemmas
mod TableLemmas
mod DefineLemmas
mod StreamLemmas
pub mod AskLemmas
pub mod RefreshAskLaws
mod TaskLemmas
mod AlterLemmas
mod DynamicLemmas
mod NewDynamics
mod MadeDynamics
pub mod TransactionLemmas
mod SeenLemmas
mod SourceLemmas
mod ReadingLemmas
pub mod NamingLemmas
mod RootLemmas
mod ChangeLemmas
mod QueryLemmas
mod LookupLaws
mod RequestLemmas
mod CommandLemmas
mod SpelledLemmas
