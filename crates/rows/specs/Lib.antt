pub mod Tags
pub mod Rows
pub mod RowList
pub mod RowSets
pub mod Following
pub mod NextTable
pub mod internal
