pub mod Told
pub mod Walk
pub mod Reading
pub mod Ends
pub mod Sets
