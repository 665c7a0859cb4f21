pub mod Report
pub mod Targets
