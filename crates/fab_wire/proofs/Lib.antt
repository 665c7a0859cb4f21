pub mod FieldLaws
pub mod Lengths
pub mod Loop
pub mod MessageLaws
pub mod NumberLaws
pub mod Pushes
pub mod ReaderLaws
pub mod WholeLaws
