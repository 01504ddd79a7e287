pub mod Pairs
pub mod Plan
pub mod Code
