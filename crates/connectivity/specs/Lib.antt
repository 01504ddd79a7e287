-- What a reader has to believe, in the order of document 01.
pub mod Lists
pub mod Graph
pub mod Connectivity
pub mod Path
pub mod Build
pub mod Certificate
pub mod TopologicalGraph
