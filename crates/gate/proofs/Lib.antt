pub mod reading
pub mod whole
pub mod continuing
pub mod conditions
