pub mod Coordinators
