pub mod Noted
pub mod Endorsing
