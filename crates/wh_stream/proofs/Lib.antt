pub mod RowIdLaws
mod ShownLaws
