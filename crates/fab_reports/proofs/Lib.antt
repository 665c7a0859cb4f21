mod Examples
pub mod Combining
pub mod FieldLaws
pub mod Given
pub mod Letters
pub mod LineLaws
pub mod Listing
pub mod Loops
pub mod NameLaws
pub mod Printing
pub mod Repeating
pub mod ReportLaws
pub mod Scans
pub mod Showing
pub mod Wholes
pub mod Words
