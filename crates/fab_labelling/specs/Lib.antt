pub mod Readers
pub mod Placement
pub mod Obligations
pub mod Claims
pub mod Refusals
pub mod Sites
