pub mod Ends
pub mod Fitting
pub mod Moves
pub mod Picture
