-- slots of lists, and what records make of a worker's outcomes
pub mod Slots
pub mod Records
-- what a worker's act comes to at each event
pub mod Acts
-- the outcome of an act's record is the one that the event gives
pub mod Given
-- what a move leaves of a node
pub mod Nodes
-- tries in a row
pub mod Tries
-- each outcome of a run has its cause, and stays
pub mod Outcomes
pub mod Having
-- no request beyond a session has an outcome
pub mod Sessions
-- what honest stores have and answer is well formed
pub mod Stored
pub mod Honest
pub mod Queues
pub mod Tidy
pub mod WellFormed
-- causes, computed on small runs
mod CausesExamples
