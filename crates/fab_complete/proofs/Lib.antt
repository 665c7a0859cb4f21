-- runs in which no journal failed, and what they come to
pub mod Complete
