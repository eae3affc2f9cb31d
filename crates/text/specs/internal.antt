-- Contracts among the functions of this crate. No rule is stated with anything here.
-- Assumes nothing.
pub mod Search
pub mod Count
pub mod Spans
