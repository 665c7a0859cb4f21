pub mod Needs
pub mod Repeats
