pub mod Below
pub mod Bit
pub mod Laws
pub mod Passed
pub mod Steps
pub mod Walks
