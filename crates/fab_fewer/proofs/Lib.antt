pub mod Fewer
pub mod InPart
pub mod Blanks
pub mod Asking
pub mod AsksInView
mod FewerExamples
mod BlanksExamples
mod InViewExamples
