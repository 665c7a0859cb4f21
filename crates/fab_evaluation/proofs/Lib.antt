pub mod Asking
pub mod RootObjects
pub mod Running
pub mod Turning
mod ChangedExamples
