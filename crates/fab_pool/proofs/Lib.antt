-- jobs and their copies
pub mod Same
-- what may go to another thread
pub mod Crossing
-- lists of jobs
pub mod Lists
