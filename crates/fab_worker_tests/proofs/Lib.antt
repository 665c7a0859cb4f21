pub mod Records
pub mod Driving
