pub mod Ended
pub mod Silence
pub mod Bundles
