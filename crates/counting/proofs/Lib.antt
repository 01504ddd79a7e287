pub mod Sets
pub mod Plans
pub mod Tally
pub mod Drawing
pub mod Grading
pub mod Counting
