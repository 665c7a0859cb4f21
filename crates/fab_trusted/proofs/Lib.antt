pub mod Trusting
pub mod Endorsing
pub mod Maps
pub mod One
pub mod Guarded
pub mod Replays
mod Box
mod TrustsExamples
mod RobustExamples
mod TrustedExamples
