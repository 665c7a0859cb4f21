pub mod Sessions
pub mod Known
