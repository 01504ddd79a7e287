pub mod MendList
pub mod Code
