pub mod Changes
pub mod Settings
pub mod States
