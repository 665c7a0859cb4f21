pub mod Forms
mod ObligationExamples
pub mod OneRefusal
mod ReaderExamples
mod RefusalExamples
