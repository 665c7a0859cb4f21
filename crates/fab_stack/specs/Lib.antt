pub mod Attempts
pub mod Points
pub mod Gives
pub mod Leads
pub mod Stacks
pub mod Calls
pub mod Stepping
