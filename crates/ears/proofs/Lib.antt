pub mod Ear
pub mod In
pub mod Body
