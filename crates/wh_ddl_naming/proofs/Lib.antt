pub mod KnownStatements
pub mod QueryLaws
pub mod NameLaws
pub mod SourceLaws
