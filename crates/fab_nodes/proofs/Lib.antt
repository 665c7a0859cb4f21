pub mod Pairs
pub mod Far
pub mod Sent
