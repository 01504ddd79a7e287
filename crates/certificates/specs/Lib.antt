pub mod Tests
pub mod Records
pub mod Encoding
pub mod Lengths
