pub mod Commits
pub mod Shown
pub mod Rule
pub mod Ends
