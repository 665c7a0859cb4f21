pub mod Numbers
pub mod ReadOrder
pub mod Counts
pub mod Votes
pub mod Again
pub mod Putting
