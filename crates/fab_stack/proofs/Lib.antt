pub mod Making
pub mod Stacks
pub mod Behind
pub mod Running
pub mod Calling
pub mod Nexting
pub mod Answering
