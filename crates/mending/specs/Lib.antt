pub mod Mend
pub mod Code
