-- what may follow, and what is due
pub mod Following
-- a run of an accepted bundle has few attempts
pub mod Few
-- what is found of a node
pub mod Finds
-- what every exchange keeps, one event later
pub mod Keeping
-- the counts behind one event more
pub mod Counted
-- at the start, and where nothing came
pub mod Starts
-- a worker whose Resume may come is at work
pub mod Working
-- the form that the lines give an event
pub mod Forms
-- which node's journal an event changes
pub mod Owning
-- what the answers tell
pub mod Turning
-- which line is used
pub mod Lined
mod TurnsExamples
