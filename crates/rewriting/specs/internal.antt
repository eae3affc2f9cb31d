-- Contracts among the functions of this crate. No rule is stated with anything here.
-- Assumes nothing.
pub mod SegmentTable
pub mod Output
pub mod QuickTest
pub mod CutOff
pub mod Rewritable
