pub mod Courses
pub mod Made
pub mod Requests
