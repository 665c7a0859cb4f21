pub mod Found
pub mod Merged
pub mod Standing
pub mod Whole
pub mod Written
