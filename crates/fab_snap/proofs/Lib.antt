pub mod Rises
mod CommitsExamples
pub mod Crossing
