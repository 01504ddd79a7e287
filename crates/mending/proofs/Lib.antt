pub mod Merged
pub mod Merging
pub mod Recorded
pub mod Decided
pub mod Listed
pub mod Fits
pub mod Mends
