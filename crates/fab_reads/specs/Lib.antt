pub mod Reads
pub mod Walks
