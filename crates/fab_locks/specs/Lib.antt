pub mod Conflicts
pub mod Indexes
