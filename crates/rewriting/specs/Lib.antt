pub mod Rewrites
pub mod Conditions
pub mod Lookups
pub mod internal
