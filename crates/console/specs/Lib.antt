pub mod Codes
pub mod Sources
