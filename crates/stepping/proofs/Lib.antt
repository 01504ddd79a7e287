pub mod Lists
pub mod Pairs
pub mod Turns
pub mod Working
pub mod States
pub mod Stepping
pub mod Edges
pub mod Building
