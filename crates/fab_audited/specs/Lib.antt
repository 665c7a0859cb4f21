-- what is promised of a run
pub mod Sound
