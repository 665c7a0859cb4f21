pub mod Changes
pub mod Closed
pub mod Fewer
pub mod Kinds
pub mod Locality
pub mod Origins
pub mod Runs
pub mod Shapes
