-- caches
pub mod Caches
-- votes
pub mod Votes
-- messages to participants
pub mod Sends
-- what stands between a worker that is alone and the stores
pub mod Links
-- what a store does with what the worker sends it
pub mod StoreSteps
-- what a request comes to over answers
pub mod Evaluations
-- what a commit makes of tables and caches
pub mod Tables
-- what becomes of the worker at each act
pub mod WorkerSteps
-- worlds behind acts
pub mod Views
-- each event of the worker
pub mod Steps
-- runs, and what they come to
pub mod Runs
-- computed on small runs
mod AloneExamples
-- the sessions of a bundle
pub mod Sessions
-- the evaluation of a bundle, and its runs
pub mod Courses
pub mod Bundles
