pub mod Decide
pub mod Sides
pub mod Paths
pub mod Items
pub mod Accepted
pub mod BuildCalls
pub mod Lengths
