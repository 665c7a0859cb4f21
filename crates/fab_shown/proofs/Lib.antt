-- what is sent is bytes, and records are short
pub mod Bytes
-- what stores and workers do
pub mod Stores
pub mod Workers
-- numbers of nodes and of classes
pub mod Nodes
-- what honest stores hold
pub mod Held
-- what an honest node does in a run
pub mod Acts
-- the commits, the outcomes and the events of a run
pub mod Commits
pub mod Outcomes
pub mod Queues
pub mod Events
-- all of it
pub mod Shown
