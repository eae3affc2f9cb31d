pub mod cut
pub mod reader
