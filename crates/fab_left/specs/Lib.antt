pub mod Left
pub mod Deeds
pub mod Acts
pub mod ErasedActs
pub mod Steps
