pub mod Models
pub mod Invariants
pub mod Outcomes
pub mod Plans
pub mod Changes
pub mod Records
