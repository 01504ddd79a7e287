pub mod Written
pub mod Tree
pub mod Certifying
pub mod Certificates
pub mod Room
pub mod Drafts
