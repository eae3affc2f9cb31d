-- Contracts among the functions of this crate. No rule is stated with anything here.
-- Assumes nothing.
pub mod Listing
pub mod Straying
pub mod Fitting
