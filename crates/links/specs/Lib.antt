pub mod Ends
pub mod Tables
