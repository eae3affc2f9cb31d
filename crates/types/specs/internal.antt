-- Contracts among the functions of this crate. No rule is stated with anything here.
-- Assumes nothing.
pub mod NumberParts
pub mod Parts
pub mod Quick
