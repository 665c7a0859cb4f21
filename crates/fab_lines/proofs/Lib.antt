pub mod Roots
pub mod Texts
