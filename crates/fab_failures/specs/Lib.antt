-- a failed call in the place of a cut
pub mod Failures
