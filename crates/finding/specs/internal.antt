-- Contracts among the functions of this crate, and with the reader. No rule is stated with anything here.
-- Assumes nothing.
pub mod Entries
pub mod PieceEnds
pub mod Lists
pub mod Notes
pub mod Answers
pub mod TablesHold
