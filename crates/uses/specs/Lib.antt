pub mod Nulls
pub mod RowGroups
