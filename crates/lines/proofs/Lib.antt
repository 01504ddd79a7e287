pub mod Digits
pub mod Put
pub mod Lengths
pub mod Parts
