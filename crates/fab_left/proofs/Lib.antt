pub mod Spends
pub mod Acting
pub mod ErasedActing
pub mod Wider
pub mod Carried
pub mod ErasedCarried
pub mod Lacking
pub mod ErasedLacking
pub mod Stacks
pub mod Split
pub mod Stepping
pub mod Stemming
pub mod Beginning
pub mod Costs
pub mod ActForms
pub mod Pausing
mod LeftExamples
