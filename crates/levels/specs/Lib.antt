pub mod Profile
pub mod Levels
pub mod Widths
pub mod Rules
pub mod internal
