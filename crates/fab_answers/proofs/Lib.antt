mod Labels
pub mod Saying
mod SaysExamples
