pub mod Chains
pub mod Gathered
pub mod Noting
pub mod Parts
pub mod ShownNames
