pub mod Laws
pub mod Regrouping
