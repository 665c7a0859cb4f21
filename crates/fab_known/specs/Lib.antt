pub mod Answers
pub mod Commits
pub mod Knowing
pub mod Lasts
pub mod Tables
