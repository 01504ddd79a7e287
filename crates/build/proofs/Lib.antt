pub mod Inner
pub mod Taking
pub mod Backs
pub mod Turns
pub mod Starts
