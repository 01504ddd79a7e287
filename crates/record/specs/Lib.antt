pub mod Read
pub mod Number
pub mod Write
pub mod Loop
