-- the lines of bytes
pub mod Lines
-- and two texts side by side
pub mod Walking
-- where the report begins
pub mod Parts
-- and worked examples of it
mod PartsExamples
-- what stands at the fronts of bytes
pub mod Fronts
-- names of nodes, each with a space behind it
pub mod Names
-- journals one after the other
pub mod Steps
-- a report and the journals behind it
pub mod Audits
-- texts that end with a line, and what they have one of
pub mod Texts
-- where no line of two texts differs
pub mod Differences
-- worked examples of the definitions
mod Examples
