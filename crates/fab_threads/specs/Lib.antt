pub mod Counts
pub mod Dones
pub mod Rounds
