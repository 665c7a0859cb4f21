pub mod Fewer
pub mod InPart
pub mod Blanks
pub mod Asking
