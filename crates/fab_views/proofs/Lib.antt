pub mod Labels
pub mod Declared
pub mod Flowing
pub mod Sets
pub mod Seen
pub mod Bundles
