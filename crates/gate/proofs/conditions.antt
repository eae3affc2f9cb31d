-- The three conditions, the laws of attached bytes and of line ends, the worked reports, and replies.
-- Assumes nothing.
pub mod Accepting
pub mod Finality
pub mod Conditions
pub mod Attached
pub mod LineEnds
pub mod TakenOut
pub mod Shown
pub mod Worked
pub mod Replies
pub mod ReplyLevels
pub mod ReplyAnswers
pub mod ReplyReports
