pub mod Choosing
pub mod Conditions
pub mod Filling
pub mod Fixed
pub mod Flows
mod HoleExamples
pub mod Lasting
pub mod Numbering
pub mod Puts
pub mod Renaming
pub mod Solving
pub mod Whole
