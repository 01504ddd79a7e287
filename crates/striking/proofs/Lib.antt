pub mod Forward
pub mod Backward
pub mod Listing
pub mod Orders
pub mod Remaining
pub mod Struck
