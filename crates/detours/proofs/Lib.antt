pub mod Lists
pub mod Routes
pub mod Kept
pub mod Marks
pub mod Filled
pub mod Answered
pub mod Earing
