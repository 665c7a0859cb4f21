-- Each file stands on some of those above it.

-- what every step keeps, and what is to be shown of an event
pub mod Shadow
pub mod Lists
pub mod Rows
pub mod Fold
pub mod Notes
pub mod Logs
pub mod Deeds
-- what a change of one node leaves of the rest
pub mod Frames
-- a worker outside the set
pub mod Here
pub mod Drops
pub mod Knowing
pub mod Gots
pub mod Begins
pub mod Shades
pub mod PutCaches
pub mod Entered
pub mod Decides
pub mod Outcomes
pub mod Telling
pub mod Ends
pub mod Resumes
pub mod Hearing
pub mod Votes
pub mod Inquiries
pub mod Objects
pub mod Hears
pub mod Wakes
-- a store outside the set
pub mod StoreHere
pub mod Applied
pub mod AppliesOutside
pub mod StoreOutside
pub mod Fresh
pub mod AppliesInside
pub mod StoreInside
pub mod StoreGoes
-- the start, versions, and where messages go
pub mod Opening
pub mod Asks
pub mod Raises
pub mod Bounds
pub mod Reached
-- each step and each run
pub mod Steps
pub mod Runs
