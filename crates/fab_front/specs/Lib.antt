pub mod Accepted
pub mod Front
pub mod Lines
pub mod Named
pub mod Readable
pub mod Reading
pub mod Refused
