pub mod Jobs
pub mod Evaluations
