pub mod Blocks
pub mod Forms
pub mod Given
pub mod Least
pub mod Parts
pub mod Sitings
pub mod Weights
