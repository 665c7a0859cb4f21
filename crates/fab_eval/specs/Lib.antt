pub mod Attempts
pub mod Outcomes
pub mod Settles
pub mod Lefts
pub mod Founds
pub mod Answered
pub mod Pauses
pub mod Turns
