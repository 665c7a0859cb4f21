pub mod Reading
pub mod Gathering
pub mod Hiding
pub mod Naming
pub mod Changing
pub mod Telling
pub mod Passing
pub mod Giving
