pub mod Decimals
mod Examples
mod NameLemmas
pub mod Sizes
