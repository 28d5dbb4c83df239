pub mod KnownTokens
pub mod KnownRefusals
pub mod KnownCounts
pub mod KnownStatements
pub mod KnownLines
pub mod KnownTask
