pub mod Asking
pub mod Followed
pub mod Requests
pub mod Roots
pub mod Sights
pub mod Posts
pub mod Shared
pub mod Alike
