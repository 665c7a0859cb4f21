pub mod Knowing
pub mod Messaging
pub mod Parting
pub mod Tabling
