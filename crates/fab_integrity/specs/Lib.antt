pub mod Changed
pub mod Redone
