pub mod Lasting
pub mod Counts
pub mod Behind
pub mod Laying
pub mod Putting
mod CachingExamples
