-- Contracts among the functions of this crate. No rule is stated with anything here.
-- Assumes nothing.
pub mod Codes
pub mod Answers
pub mod Everyone
