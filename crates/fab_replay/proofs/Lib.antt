-- Each file stands on some of those above it.
pub mod Moves
pub mod Marks
pub mod Answered
pub mod Behind
pub mod Accepted
pub mod Resting
pub mod Aligned
pub mod Numbered
pub mod Keeping
pub mod Excluded
pub mod Steps
pub mod Failing
pub mod Scheduled
pub mod Viewing
pub mod Counts
pub mod Trusting
pub mod Readable
pub mod Ends
pub mod Starting
pub mod Exact
pub mod Stopping
mod ReplaysExamples
pub mod Isolating
