-- Contracts among the functions of this crate. No rule is stated with anything here.
-- Assumes nothing.
pub mod Standing
pub mod SpecialBytes
pub mod Queue
pub mod Cutting
pub mod Between
pub mod Judgements
pub mod Entering
pub mod Settling
pub mod Loop
