pub mod Withstands
