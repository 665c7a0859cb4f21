pub mod Ranges
pub mod Sites
pub mod Fitting
pub mod Nodes
pub mod Given
pub mod Meanings
pub mod Gives
pub mod Posts
