pub mod Cores
pub mod Honest
pub mod Moved
pub mod Places
pub mod Planning
pub mod Posts
pub mod Starts
pub mod Telling
