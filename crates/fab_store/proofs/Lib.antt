pub mod Again
pub mod Keeping
pub mod Numbers
pub mod Reasons
pub mod Recovered
pub mod Roots
pub mod Spelling
