mod ReadsExamples
pub mod Walking
