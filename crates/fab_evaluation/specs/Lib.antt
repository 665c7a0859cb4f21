pub mod Asking
pub mod Roots
pub mod Singles
