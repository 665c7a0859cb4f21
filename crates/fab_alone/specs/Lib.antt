pub mod Alone
pub mod Bundles
