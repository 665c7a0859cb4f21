pub mod Attempts
pub mod Workers
pub mod Machine
pub mod Serial
pub mod Crashing
