pub mod Lookup
pub mod Once
