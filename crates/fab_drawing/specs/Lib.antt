pub mod Asked
pub mod Drawing
pub mod Endings
pub mod Parts
