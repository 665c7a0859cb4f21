pub mod Events
pub mod Hidden
pub mod Kept
pub mod Parts
pub mod Places
pub mod Scopes
pub mod Views
