-- The rules said at once over all segments, and the same rules as each segment meets them after those before it.
-- Assumes nothing.
pub mod OneLevel
pub mod AllLevels
pub mod Closing
pub mod AllRules
pub mod LevelTable
pub mod SegmentTable
