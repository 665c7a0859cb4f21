pub mod Accepting
pub mod Authorities
pub mod Bytes
pub mod Faults
pub mod Fronts
pub mod Outcomes
pub mod Refusals
mod RefusedExamples
