-- two worlds, one of which has a broken node, side by side
pub mod Broken
