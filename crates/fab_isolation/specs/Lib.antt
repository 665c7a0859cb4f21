pub mod Owed
pub mod Law
