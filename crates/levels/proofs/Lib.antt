pub mod CodeLetters
pub mod CalledLevel
pub mod LevelTests
pub mod MarkTests
pub mod HlAnswers
pub mod Depth
pub mod Cases
