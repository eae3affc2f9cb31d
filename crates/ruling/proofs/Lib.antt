pub mod Pairings
pub mod TooMany
pub mod UnusedElements
pub mod EarlyRules
pub mod RuleOrder
pub mod UsualSegments
pub mod UpTo31
pub mod OwnView
