pub mod Acts
pub mod Seen
pub mod Slots
pub mod Transit
pub mod Under
