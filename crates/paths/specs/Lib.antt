pub mod Items
pub mod Paths
pub mod Code
