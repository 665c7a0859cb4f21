-- answers with one more
pub mod Adding
-- a job that goes on at a pause
pub mod Turning
-- the evaluators of all numbers
pub mod Places
mod JobsExamples
