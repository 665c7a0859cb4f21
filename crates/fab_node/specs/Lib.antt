pub mod Deeds
pub mod Standing
