pub mod Walks
pub mod Deciding
pub mod Callings
