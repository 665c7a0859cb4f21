pub mod Labels
pub mod Lives
pub mod Marks
pub mod Nodes
pub mod Origins
pub mod Titled
