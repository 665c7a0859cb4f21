pub mod Crash
pub mod EntryReading
pub mod Lengths
pub mod Records
