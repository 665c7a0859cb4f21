pub mod Alike
pub mod Answered
pub mod Headline
pub mod Printed
pub mod Replays
pub mod Reply
pub mod Shown
pub mod Tasks
