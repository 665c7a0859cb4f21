pub mod Honest
pub mod Keeping
mod ReplaysExamples
pub mod Steps
