pub mod Front
pub mod Limit
