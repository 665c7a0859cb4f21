pub mod Answered
pub mod Answering
mod AtHand
pub mod Endings
pub mod Fronts
mod HeadlineExamples
pub mod Trusting
pub mod Replaying
pub mod Replying
mod Saying
mod TasksExamples
pub mod Wishes
pub mod Watching
pub mod Shown
pub mod Alike
pub mod Printed
