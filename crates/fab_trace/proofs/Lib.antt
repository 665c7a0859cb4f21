mod Examples
pub mod Lines
pub mod Told
