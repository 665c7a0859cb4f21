pub mod Tables
pub mod Versions
pub mod Stores
pub mod Shelves
pub mod Parts
pub mod Caches
