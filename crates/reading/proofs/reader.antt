-- The reader between segments, its judgements and what it makes of them.
-- Assumes nothing.
pub mod Stores
pub mod HlSegments
pub mod Standings
pub mod RuleOrder
pub mod OpeningControl
pub mod PlainSegments
pub mod JudgeSteps
pub mod Settles
pub mod Going
pub mod FirstTests
