-- messages that can be read
pub mod Short
-- queues
pub mod Waiting
-- what a store answers
pub mod Replies
-- what a worker awaits
pub mod Awaiting
-- what is awaited is on its way
pub mod Served
-- nobody waits in vain
pub mod Silent
-- no request is left open
pub mod Ended
-- the sessions and nodes of accepted bundles
pub mod Sessions
-- and their runs, and what reports show of them
pub mod Reports
-- both, computed on small runs
mod EndedExamples
mod SilenceExamples
mod BundleExamples
