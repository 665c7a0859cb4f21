pub mod Answers
pub mod Kinds
pub mod Lines
pub mod Printed
pub mod Reading
pub mod Reports
pub mod Showable
