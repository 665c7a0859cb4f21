pub mod Feet
pub mod Shown
pub mod Windows
