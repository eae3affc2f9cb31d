-- The cut of the next segment over the queue of special places.
-- Assumes nothing.
pub mod SpecialBytes
pub mod Index
pub mod Queue
pub mod Bytes
pub mod Ends
pub mod Walk
pub mod Exits
pub mod Facts
pub mod BinCuts
pub mod PastLineEnds
