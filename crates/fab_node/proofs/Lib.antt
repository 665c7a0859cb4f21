pub mod Accepted
pub mod Acts
pub mod Asked
pub mod AtWork
pub mod Carried
pub mod May
mod NodeExamples
pub mod PlanParts
pub mod Reread
pub mod RolePlans
pub mod Rooms
pub mod Started
pub mod Stepped
pub mod Written
