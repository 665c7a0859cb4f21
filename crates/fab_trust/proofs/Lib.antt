pub mod Deciding
pub mod Least
pub mod Guarding
pub mod Letting
pub mod Keeping
pub mod Masks
