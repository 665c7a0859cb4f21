mod CountsExamples
pub mod Crossing
pub mod Keeping
pub mod Logs
mod RoundsExamples
pub mod Told
