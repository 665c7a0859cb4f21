pub mod Calls
pub mod Effects
pub mod Listed
pub mod Logs
pub mod Nested
pub mod Overlay
