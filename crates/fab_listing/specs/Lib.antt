pub mod Listing
pub mod Trusted
