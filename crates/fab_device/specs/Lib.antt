pub mod Devices
pub mod Kept
