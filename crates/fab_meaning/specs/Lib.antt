pub mod Sights
pub mod Effects
pub mod Ends
pub mod Settings
pub mod Jobs
pub mod Lefts
pub mod Turns
