pub mod Erased
pub mod Agreement
