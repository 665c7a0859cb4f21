pub mod Firsts
pub mod Pieces
pub mod Texts
