pub mod Holed
pub mod Inferring
