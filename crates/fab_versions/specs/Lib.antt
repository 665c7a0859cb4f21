pub mod Blocked
pub mod Holdings
pub mod Places
