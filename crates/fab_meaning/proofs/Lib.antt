pub mod Acting
pub mod Arguments
pub mod AtStart
pub mod Chains
pub mod Ending
pub mod Pausing
pub mod Going
mod ErasedExamples
mod SecretExamples
pub mod Toy
