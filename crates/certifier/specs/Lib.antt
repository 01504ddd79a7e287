pub mod Code
pub mod Made
