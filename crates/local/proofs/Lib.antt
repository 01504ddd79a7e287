pub mod Trying
pub mod Near
pub mod Walking
pub mod Standing
pub mod Test
