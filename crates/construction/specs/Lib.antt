pub mod Sets
pub mod Search
pub mod Ears
pub mod Start
pub mod Steps
pub mod Certificate
pub mod Construction
