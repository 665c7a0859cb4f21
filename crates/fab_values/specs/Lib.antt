pub mod Computed
pub mod Pieces
