pub mod Holes
pub mod Open
pub mod Least
pub mod Chosen
pub mod Flowing
pub mod Passes
