pub mod Edges
pub mod Writing
pub mod RoundTrip
