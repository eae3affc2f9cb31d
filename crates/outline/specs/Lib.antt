pub mod Outline
pub mod Nested
pub mod Walks
pub mod internal
