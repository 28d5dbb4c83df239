pub mod Keys
pub mod OrderBy
