pub mod Bundles
pub mod Isolation
pub mod Record
pub mod Replay
pub mod Sights
