pub mod Authority
pub mod Called
pub mod Decided
pub mod Remembered
