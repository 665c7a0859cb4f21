pub mod Applied
pub mod Caches
pub mod Commits
pub mod Kept
pub mod Locks
pub mod NameLists
pub mod Reasons
pub mod Records
pub mod Refusals
pub mod Senders
pub mod ShelfKept
pub mod StoreActs
mod StoreExamples
pub mod TableLaws
pub mod Toy
pub mod VersionLaws
