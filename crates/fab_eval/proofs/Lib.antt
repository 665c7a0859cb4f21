pub mod Acting
pub mod Beginning
pub mod Calling
pub mod Settling
pub mod Going
