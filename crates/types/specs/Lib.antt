pub mod Reals
pub mod Types
pub mod Numbers
pub mod Worth
pub mod internal
