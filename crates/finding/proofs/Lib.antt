pub mod TableEntries
pub mod FirstPiece
pub mod PlainTable
pub mod NoteLaws
pub mod LevelSearch
pub mod ListSearch
pub mod HeldLevels
pub mod StoredLevels
