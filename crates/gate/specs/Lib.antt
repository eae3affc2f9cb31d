pub mod Answers
pub mod Profile
pub mod Segments
pub mod Rules
pub mod Meets
pub mod Records
pub mod Reads
pub mod Conditions
