mod Examples
pub mod Under
