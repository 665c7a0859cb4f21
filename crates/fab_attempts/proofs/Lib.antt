pub mod Suiting
pub mod Rows
pub mod Parts
pub mod Puts
pub mod Programs
