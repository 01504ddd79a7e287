pub mod Plans
pub mod Words
