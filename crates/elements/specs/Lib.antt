pub mod Reasons
pub mod Data
pub mod Checks
pub mod Rules
pub mod internal
