pub mod Rights
pub mod Computed
