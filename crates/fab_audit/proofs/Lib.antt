-- the name of a worker or store tells its number
pub mod Numbers
-- so what is shown of an event tells it
pub mod Events
-- the lines of a report tell its events
pub mod Lines
-- so a report tells the events of its run
pub mod Told
-- how far the events come
pub mod Fronts
-- journals that never fail
pub mod Sureness
-- one event
pub mod Telling
-- one event after the other
pub mod Retold
-- what a node is behind moves
pub mod Unbroken
-- lines of journals
pub mod Kept
-- nodes that are not hostile
pub mod Honest
-- names of nodes
pub mod Names
-- what is so of a text is one thing
pub mod Verdicts
-- what is compared
pub mod Comparing
-- with which statuses the reply comes
pub mod Statuses
-- the reply, and that there is no other
pub mod Replies
-- worked examples of the definitions
mod Examples
