-- How segments that were passed are continued to a whole transaction.
-- Assumes nothing.
pub mod FreshNames
pub mod AddedSegments
pub mod LevelNames
pub mod AddedLevels
pub mod PendingRows
pub mod Continuation
pub mod NotEarly
