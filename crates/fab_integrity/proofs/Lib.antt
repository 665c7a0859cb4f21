-- Each file stands on some of those above it.

-- what every step of the machine keeps
pub mod Invariant
-- lists, maps, tids, records and worlds
pub mod Lists
pub mod Maps
pub mod Tids
pub mod Readings
pub mod Lasting
pub mod Deals
pub mod Items
pub mod Worlds
pub mod Roles
pub mod Transport
-- what a change of one node leaves of the rest
pub mod Frames
-- a store outside D
pub mod StoreEvents
pub mod StoreCommits
pub mod StoreSteps
-- a worker outside D, and its commits
pub mod WorkerSpelling
pub mod WorkerMoves
pub mod WorkerEvents
pub mod Replays
pub mod Decides
pub mod WorkerSteps
-- what is sent comes in order, and what each event costs
pub mod Orders
pub mod Plain
pub mod Costs
pub mod Changes
pub mod Counts
pub mod Once
-- each step, each run, and what is held behind it
pub mod Steps
pub mod Start
pub mod Held
pub mod Runs
-- no run gets stuck, and one that is over leaves nothing open
pub mod Awaited
pub mod Live
pub mod Over
mod OverExamples
