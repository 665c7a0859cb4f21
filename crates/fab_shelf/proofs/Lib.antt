pub mod Asking
mod ShelfExamples
